use Rattle.std.proofs.Common.{◌≡◌, ◌++◌}
use Rattle.svg_text.specs.Shapes.{shapes_text}
use Rattle.chart_levels.specs.Strips.{stripes}
use Rattle.chart_levels.proofs.drawing.put_stripes.Given as goal

abbrev pub invariant-loop-stripe : goal.invariant-loop-stripe
invariant-loop-stripe l = l.out.items ≡ l.fn.out.items ++ shapes_text (stripes l.strip l.stripe)
