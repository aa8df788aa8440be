use Rattle.std.proofs.Common.{◌≡◌, ◌++◌}
use Rattle.chart_links.specs.Levels.{port_lines}
use Rattle.chart_links.proofs.levels.add_ports.Given as goal

abbrev pub invariant-loop-place : goal.invariant-loop-place
invariant-loop-place l = l.lines.items ≡ l.fn.lines.items ++ port_lines l.place
