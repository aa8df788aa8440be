use Rattle.std.proofs.Common.{◌≡◌, ◌++◌, drop}
use Rattle.svg_text.specs.Shapes.{shapes_text}
use Rattle.chart_page.specs.Shapes.{each, row_strokes}
use Rattle.chart_page.proofs.page.put_all_strokes.Given as goal

abbrev pub invariant-loop-of : goal.invariant-loop-of
invariant-loop-of l = record {
  shapes : l.out.items ++ shapes_text (each (row_strokes l.frame) l.row (drop l.of-index l.rows)) ≡ l.fn.out.items ++ shapes_text (each (row_strokes l.frame) 0 l.rows);
  row : l.row ≡ l.of-index;
}
