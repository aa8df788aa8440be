use Rattle.std.proofs.Common.{arith}
use Rattle.search_scene.proofs.bars.bars_of.Goals as goal

pub loop-item-preserved : goal.loop-item-preserved
loop-item-preserved c = record {
  bars = c.in_ok-add.ensures.bars c.args.page.now c.loop-item.invariant.bars c.in_ok-bar.ensures;
  few = omega (arith, c.in_ok-add.ensures.few, c.loop-item.invariant.few);
  each = c.in_ok-add.ensures.each c.loop-item.invariant.each;
}
