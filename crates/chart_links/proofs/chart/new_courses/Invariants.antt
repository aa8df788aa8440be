use Rattle.std.proofs.Common.{◌≡◌}
use Rattle.std.specs.Prelude.{replicate}
use Rattle.chart_links.specs.CourseView.{quiet}
use Rattle.chart_links.proofs.chart.new_courses.Given as goal

abbrev pub invariant-loop-lane : goal.invariant-loop-lane
invariant-loop-lane l = l.courses.items ≡ replicate l.lane quiet
