use Rattle.generate_engine.proofs.Fated.{after-none, after-next}
use Rattle.generate_engine.proofs.laws.counted_events_are_fated.Goals as goal

pub returns-clause-none : goal.returns-clause-none
returns-clause-none c = after-none

pub returns-clause-next : goal.returns-clause-next
returns-clause-next c = after-next
