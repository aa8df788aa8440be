use Rattle.lane_core.specs.Steps.{new_lane}
use Rattle.lane_core.specs.Calls.{after_calls, on_the_way}
use Rattle.lane_core.proofs.Sound.{accepted_rest}
use Rattle.lane_core.proofs.laws.accepted_begins_entered.Goals as goal

pub returns : goal.returns
returns c =
    record {
      begins = λ credits calls k. (on_the_way (after_calls (new_lane credits) calls), accepted_rest c.reading_is_spelling.ensures.read credits calls k);
      rest = accepted_rest c.reading_is_spelling.ensures.read;
    }
