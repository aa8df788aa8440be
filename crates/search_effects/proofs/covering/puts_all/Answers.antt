use Rattle.std.proofs.Common.{arith}
use Rattle.search_effects.proofs.covering.puts_all.Goals as goal

pub returns : goal.returns
returns c = λ yes at l. c.loop-at.invariant at (omega (arith, l, c.loop-at-test.false))
