use Rattle.std.proofs.Common.{◌∙◌, arith}
use Rattle.search_picture.proofs.Steps.{told-next, told-past}
use Rattle.search_picture.proofs.picture.put_told.Goals as goal

pub loop-line-preserved : goal.loop-line-preserved
loop-line-preserved c = record {
  shapes =
      told-next c.loop-line.y c.line-item.result c.args.lines.now c.loop-line.line-index c.loop-line.out.items c.put_line.new.out.items
      c.loop-line-test.true c.line-item.is c.in_ok-put_line.ensures
      ∙ c.loop-line.invariant.shapes;
  y = omega (arith, c.loop-line.invariant.y);
}

pub returns : goal.returns
returns c = told-past c.loop-line.y c.args.lines.now c.loop-line.line-index _ c.loop-line.out.items c.loop-line-test.false c.loop-line.invariant.shapes
