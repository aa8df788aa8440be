use Rattle.std.proofs.Common.{◌≡◌, ◌++◌, drop}
use Rattle.svg_text.specs.Shapes.{shapes_text}
use Rattle.chart_levels.specs.Strips.{steps_shapes}
use Rattle.chart_levels.proofs.drawing.put_steps.Given as goal

abbrev pub invariant-loop-place : goal.invariant-loop-place
invariant-loop-place l = l.out.items ++ shapes_text (steps_shapes l.strip (drop l.place l.steps)) ≡ l.fn.out.items ++ shapes_text (steps_shapes l.strip l.steps)
