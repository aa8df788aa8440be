use Rattle.std.proofs.Common.{inl, inr}
use Rattle.search_rules.proofs.junk.leaves_junk.Goals as goal

pub returns-then-ignores : goal.returns-then-ignores
returns-then-ignores c = λ yes. elim (c.ignores.ensures c.if-ignores.true) [
  | inl apart ↦ inl apart
  | inr overlooks ↦ inr (inl overlooks)
]

pub returns : goal.returns
returns c = λ yes. inr (inr (c.misses_there.ensures yes))
