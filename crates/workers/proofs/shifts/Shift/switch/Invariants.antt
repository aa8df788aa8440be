use Rattle.std.proofs.Common.{◌≡◌, ◌<◌}
use Rattle.workers.proofs.shifts.Shift.switch.Given as goal

abbrev pub invariant-loop-port : goal.invariant-loop-port
invariant-loop-port g l = (l.self.hall ≡ l.fn.self.hall) × (l.self.left < l.fn.self.left)
