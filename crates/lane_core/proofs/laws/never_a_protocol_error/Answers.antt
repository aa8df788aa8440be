use Rattle.lane_core.proofs.Kept.{never_fault}
use Rattle.lane_core.proofs.laws.never_a_protocol_error.Goals as goal

pub returns : goal.returns
returns c = never_fault c.reading_is_spelling.ensures.read
