use Rattle.std.proofs.Common.{◌≡◌, ◌++◌, drop}
use Rattle.svg_text.specs.Shapes.{shapes_text}
use Rattle.chart_levels.specs.Pages.{beside}
use Rattle.chart_levels.proofs.page.put_all.Given as goal

abbrev pub invariant-loop-place : goal.invariant-loop-place
invariant-loop-place l = l.out.items ++ shapes_text (beside l.left l.rows l.place (drop l.place l.lines)) ≡ l.fn.out.items ++ shapes_text (beside l.left l.rows 0 l.lines)
