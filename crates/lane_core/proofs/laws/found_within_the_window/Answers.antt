use Rattle.lane_core.specs.Steps.{new_lane}
use Rattle.lane_core.specs.Calls.{after_calls}
use Rattle.lane_core.proofs.Windows.{within, sent_is_kept}
use Rattle.lane_core.proofs.Numbered.{sent_under_its_number}
use Rattle.lane_core.proofs.laws.found_within_the_window.Goals as goal

pub returns : goal.returns
returns c = record { sent = λ credits before number h. sent_is_kept (after_calls (new_lane credits) before).sender number h; numbered = sent_under_its_number c.reading_is_spelling.ensures.read; found = within c.reading_is_spelling.ensures.read }
