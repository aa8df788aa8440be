use Rattle.std.proofs.Common.{◌≡◌, ◌++◌, drop}
use Rattle.chart_links.specs.ChartView.{left}
use Rattle.chart_links.proofs.left.add_left.Given as goal

abbrev pub invariant-loop-place : goal.invariant-loop-place
invariant-loop-place l = l.opens.items ++ left l.place (drop l.place l.courses) ≡ l.fn.opens.items ++ left 0 l.courses
