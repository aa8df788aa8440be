use Rattle.std.proofs.Common.{◌≡◌, ◌≤◌, take}
use Rattle.std.specs.Prelude.{count_by, is_some}
use Rattle.monitor_ports.proofs.watched.Watched.open_count.Given as goal

abbrev pub invariant-loop-tag : goal.invariant-loop-tag
invariant-loop-tag l = record {
  counted : l.count ≡ count_by is_some (take l.tag-index l.self.open_tags);
  few : l.count ≤ l.tag-index;
}
