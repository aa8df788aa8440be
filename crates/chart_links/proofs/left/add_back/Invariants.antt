use Rattle.std.proofs.Common.{◌≡◌, ◌++◌, drop}
use Rattle.chart_links.specs.ChartView.{left_of_back}
use Rattle.chart_links.proofs.left.add_back.Given as goal

abbrev pub invariant-loop-place : goal.invariant-loop-place
invariant-loop-place l = l.opens.items ++ left_of_back l.lane (drop l.place l.back.items) ≡ l.fn.opens.items ++ left_of_back l.lane l.back.items
