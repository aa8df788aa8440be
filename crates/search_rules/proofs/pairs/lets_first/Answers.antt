use Rattle.std.proofs.Common.{inr}
use Rattle.search_rules.proofs.pairs.lets_first.Goals as goal

pub returns-then-follows : goal.returns-then-follows
returns-then-follows c = λ yes. inr (inr (c.follows.ensures c.if-follows.true))

pub returns : goal.returns
returns c = λ yes. c.lets_before.ensures yes
