use Rattle.std.proofs.Common.{◌≡◌}
use Rattle.std.specs.Prelude.{replicate}
use Rattle.monitor_ports.specs.Watched.{fresh}
use Rattle.monitor_ports.proofs.monitor.new_requesters.Given as goal

abbrev pub invariant-loop-place : goal.invariant-loop-place
invariant-loop-place l = l.requesters.items ≡ replicate l._place fresh
