use Rattle.hall_events.proofs.Refused.{possible}
use Rattle.hall_events.proofs.refusal.each_refusal_is_possible.Goals as goal

pub returns : goal.returns
returns c = possible c.every_refusal_is_possible.ensures
