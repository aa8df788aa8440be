use Rattle.std.proofs.Common.{arith, sym, ◌∙◌}
use Rattle.requester_core.proofs.Tags.{next_below, is_lowest, lowest_in_range}
use Rattle.requester_core.proofs.requester.free_from.Goals as goal

pub loop-place-preserved : goal.loop-place-preserved
loop-place-preserved c = next_below c.args.tags.now c.loop-place.place c.loop-place-test.true (sym c.is_some.ensures ∙ c.if-is_some.true) c.loop-place.invariant

pub returns-else-is_some : goal.returns-else-is_some
returns-else-is_some c = is_lowest c.args.tags.now c.loop-place.place (sym c.is_some.ensures ∙ c.if-is_some.false) c.loop-place.invariant

pub returns-after-loop-place : goal.returns-after-loop-place
returns-after-loop-place c = omega (arith, lowest_in_range c.args.tags.now, c.loop-place.invariant, c.loop-place-test.false)
