use Rattle.std.proofs.Common.{◌≡◌, ◌++◌, drop}
use Rattle.log_faults.specs.WithFault.{in_turn}
use Rattle.log_faults.proofs.changing.put_in_turn.Given as goal

abbrev pub invariant-loop-op : goal.invariant-loop-op
invariant-loop-op l =
    record l.log { records = l.log.records ++ in_turn l.of.by l.number l.of.n (drop l.op-index l.parts) } ≡
    record l.fn.log { records = l.fn.log.records ++ in_turn l.of.by 0 l.of.n l.parts }
