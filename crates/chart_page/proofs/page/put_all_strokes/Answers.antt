use Rattle.std.proofs.Common.{◌∙◌, arith}
use Rattle.chart_page.specs.Shapes.{row_strokes}
use Rattle.chart_page.proofs.Steps.{each-next, each-past}
use Rattle.chart_page.proofs.page.put_all_strokes.Goals as goal

pub loop-of-preserved : goal.loop-of-preserved
loop-of-preserved c = record {
  shapes =
      each-next (row_strokes c.args.frame) c.args.rows.now c.loop-of.of-index c.loop-of.row c.of-item.result c.loop-of.out.items c.put_strokes.new.out.items
      c.loop-of-test.true c.of-item.is c.in_ok-put_strokes.ensures
      ∙ c.loop-of.invariant.shapes;
  row = omega (arith, c.loop-of.invariant.row);
}

pub returns : goal.returns
returns c =
    each-past (row_strokes c.args.frame) c.args.rows.now c.loop-of.of-index c.loop-of.row c.loop-of.out.items c.loop-of-test.false ∙ c.loop-of.invariant.shapes
