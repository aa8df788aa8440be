use Rattle.std.proofs.Common.{◌≡◌, ◌++◌}
use Rattle.svg_text.specs.Shapes.{shapes_text}
use Rattle.chart_page.specs.Look.{requester_names}
use Rattle.chart_page.proofs.heading.put_requester_names.Given as goal

abbrev pub invariant-loop-place : goal.invariant-loop-place
invariant-loop-place l = l.out.items ≡ l.fn.out.items ++ shapes_text (requester_names l.frame l.place l.y)
