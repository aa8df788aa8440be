use Rattle.std.proofs.Common.{inl, inr}
use Rattle.search_rules.proofs.junk.ignores.Goals as goal

pub returns-then-are_apart : goal.returns-then-are_apart
returns-then-are_apart c = λ yes. inl (c.are_apart.ensures c.if-are_apart.true)

pub returns : goal.returns
returns c = λ yes. inr (c.overlooks.ensures yes)
