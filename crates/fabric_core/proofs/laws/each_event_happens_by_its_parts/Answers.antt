use Rattle.fabric_core.proofs.Views.{by_parts}
use Rattle.fabric_core.proofs.laws.each_event_happens_by_its_parts.Goals as goal

pub returns : goal.returns
returns c = λ f f' event what h. by_parts f event what f' h
