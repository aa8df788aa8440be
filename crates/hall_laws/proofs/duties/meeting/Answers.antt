use Rattle.hall_laws.proofs.Answered.{both_met}
use Rattle.hall_laws.proofs.duties.meeting.Goals as goal

pub returns : goal.returns
returns c = both_met c.the_trace_belongs.ensures.explained
