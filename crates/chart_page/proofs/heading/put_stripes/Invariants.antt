use Rattle.std.proofs.Common.{◌≡◌, ◌++◌}
use Rattle.svg_text.specs.Shapes.{shapes_text}
use Rattle.chart_page.specs.Look.{stripes}
use Rattle.chart_page.proofs.heading.put_stripes.Given as goal

abbrev pub invariant-loop-stripe : goal.invariant-loop-stripe
invariant-loop-stripe l = l.out.items ≡ l.fn.out.items ++ shapes_text (stripes l.frame l.stripe)
