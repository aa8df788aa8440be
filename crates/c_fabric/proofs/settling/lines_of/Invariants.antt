use Rattle.std.proofs.Common.{◌≡◌, ◌++◌, drop}
use Rattle.c_fabric.specs.SessionView.{collected_lines}
use Rattle.c_fabric.proofs.settling.lines_of.Given as goal

abbrev pub invariant-loop-record : goal.invariant-loop-record
invariant-loop-record l = l.lines.items ++ collected_lines (drop l.record-index l.collected) ≡ collected_lines l.collected
