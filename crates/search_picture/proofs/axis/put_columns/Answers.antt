use Rattle.std.proofs.Common.{◌∙◌, refl, arith}
use Rattle.std.specs.Prelude.{slice_index}
use Rattle.search_picture.proofs.Steps.{columns-next, columns-past}
use Rattle.search_picture.proofs.axis.put_columns.Goals as goal

pub loop-line-preserved : goal.loop-line-preserved
loop-line-preserved c = record {
  shapes =
      columns-next c.args.bottom c.loop-line.column (slice_index c.args.lines.now c.loop-line.line-index) c.args.lines.now c.loop-line.line-index c.loop-line.out.items c.put_column.new.out.items
      c.loop-line-test.true refl c.in_ok-put_column.ensures
      ∙ c.loop-line.invariant.shapes;
  column = omega (arith, c.loop-line.invariant.column);
}

pub returns : goal.returns
returns c = columns-past c.args.bottom c.loop-line.column c.args.lines.now c.loop-line.line-index _ c.loop-line.out.items c.loop-line-test.false c.loop-line.invariant.shapes
