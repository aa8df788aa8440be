use Rattle.std.proofs.Common.{◌≡◌, take}
use Rattle.log_faults.specs.WithFault.{told_from}
use Rattle.log_faults.proofs.changing.changed.Given as goal

abbrev pub invariant-loop-place : goal.invariant-loop-place
invariant-loop-place l =
    l.log ≡ record { base = l.fn.extent.base; size = l.fn.extent.size; block = l.fn.extent.block; records = told_from l.fault.kind l.fault.place l.asked.what l.asked.parts.items 0 (take l.place l.records) }
