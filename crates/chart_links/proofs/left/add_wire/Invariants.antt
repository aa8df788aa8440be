use Rattle.std.proofs.Common.{◌≡◌, ◌++◌, drop}
use Rattle.chart_links.specs.ChartView.{left_of_wire}
use Rattle.chart_links.proofs.left.add_wire.Given as goal

abbrev pub invariant-loop-place : goal.invariant-loop-place
invariant-loop-place l = l.opens.items ++ left_of_wire l.lane (drop l.place l.wire.items) ≡ l.fn.opens.items ++ left_of_wire l.lane l.wire.items
