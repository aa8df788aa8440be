use Rattle.std.proofs.Common.{take}
use Rattle.log_faults.specs.Free.{IsFree}
use Rattle.log_faults.proofs.free.is_free.Given as goal

abbrev pub invariant-loop-place : goal.invariant-loop-place
invariant-loop-place l = IsFree l.by (take l.place l.records)
