use Rattle.std.proofs.Common.{◌∙◌, arith}
use Rattle.chart_page.specs.Shapes.{row_note}
use Rattle.chart_page.proofs.Steps.{each-next, each-past}
use Rattle.chart_page.proofs.page.put_notes.Goals as goal

pub loop-of-preserved : goal.loop-of-preserved
loop-of-preserved c = record {
  shapes =
      each-next (row_note c.args.frame) c.args.rows.now c.loop-of.of-index c.loop-of.row c.of-item.result c.loop-of.out.items c.put_note.new.out.items
      c.loop-of-test.true c.of-item.is c.in_ok-put_note.ensures
      ∙ c.loop-of.invariant.shapes;
  row = omega (arith, c.loop-of.invariant.row);
}

pub returns : goal.returns
returns c =
    each-past (row_note c.args.frame) c.args.rows.now c.loop-of.of-index c.loop-of.row c.loop-of.out.items c.loop-of-test.false ∙ c.loop-of.invariant.shapes
