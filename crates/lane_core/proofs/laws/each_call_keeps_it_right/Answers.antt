use Rattle.lane_core.proofs.Sound.{step_sound}
use Rattle.lane_core.proofs.Kept.{sound, new_right_with, right_with, content_by}
use Rattle.lane_core.proofs.laws.each_call_keeps_it_right.Goals as goal

pub returns : goal.returns
returns c =
    record {
      new = new_right_with;
      right = right_with;
      content = content_by c.reading_is_spelling.ensures.read;
      on_the_way = λ e call i r. (step_sound c.reading_is_spelling.ensures.read e call i (sound c.reading_is_spelling.ensures.read e r)).1;
    }
