use Rattle.std.proofs.Common.{◌≡◌, ◌++◌, drop}
use Rattle.std.specs.Prelude.{None}
use Rattle.svg_text.specs.Shapes.{shapes_text}
use Rattle.chart_page.specs.Shapes.{bands}
use Rattle.chart_page.proofs.page.put_bands.Given as goal

abbrev pub invariant-loop-of : goal.invariant-loop-of
invariant-loop-of l = record {
  shapes : l.out.items ++ shapes_text (bands l.frame l.above l.row (drop l.of-index l.rows)) ≡ l.fn.out.items ++ shapes_text (bands l.frame None 0 l.rows);
  row : l.row ≡ l.of-index;
}
