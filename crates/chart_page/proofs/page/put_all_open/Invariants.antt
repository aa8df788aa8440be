use Rattle.std.proofs.Common.{◌≡◌, ◌++◌, drop}
use Rattle.svg_text.specs.Shapes.{shapes_text}
use Rattle.chart_page.specs.Shapes.{open_strokes}
use Rattle.chart_page.proofs.page.put_all_open.Given as goal

abbrev pub invariant-loop-of : goal.invariant-loop-of
invariant-loop-of l = l.out.items ++ shapes_text (open_strokes l.frame (drop l.of-index l.opens)) ≡ l.fn.out.items ++ shapes_text (open_strokes l.frame l.opens)
