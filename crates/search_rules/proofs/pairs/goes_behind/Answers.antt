use Rattle.std.proofs.Common.{inl, inr}
use Rattle.search_rules.proofs.pairs.goes_behind.Goals as goal

pub returns-then-are_apart : goal.returns-then-are_apart
returns-then-are_apart c = λ so. inl (c.are_apart.ensures c.if-are_apart.true)

pub returns : goal.returns
returns c = λ so. inr (c.waits.ensures so)
