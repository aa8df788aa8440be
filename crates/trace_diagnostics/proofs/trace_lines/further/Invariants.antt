use Rattle.std.proofs.Common.{◌≡◌, drop}
use Rattle.trace_diagnostics.specs.Told.{further}
use Rattle.trace_diagnostics.proofs.trace_lines.further.Given as goal

abbrev pub invariant-loop-other : goal.invariant-loop-other
invariant-loop-other l = further (drop l.other-index l.skipped) l.number ≡ further l.skipped l.fn.line
