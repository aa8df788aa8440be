use Rattle.std.proofs.Common.{ap, inl, inr}
use Rattle.search_effects.specs.Effects.{told_of}
use Rattle.search_effects.proofs.pairs.read_yields.Goals as goal

pub returns-in-None : goal.returns-in-None
returns-in-None c = λ yes. inl (ap told_of c.in-None.is)

pub returns-in-Some : goal.returns-in-Some
returns-in-Some c = λ yes. inr (λ base block m agrees e. c.clashes.ensures yes base block m (agrees c.in-Some.seen.now (ap told_of c.in-Some.is)) e)
