use Rattle.std.proofs.Common.{◌≡◌, ◌≤◌, ◌*◌, take}
use Rattle.std.specs.Prelude.{sum_by}
use Rattle.monitor_ports.specs.Watched.{open_count}
use Rattle.monitor_ports.proofs.monitor.Monitor.open.Given as goal

abbrev pub invariant-loop-watched : goal.invariant-loop-watched
invariant-loop-watched l = record {
  sum : l.count ≡ sum_by open_count (take l.watched-index l.self.requesters);
  few : l.count ≤ 256 * l.watched-index;
}
