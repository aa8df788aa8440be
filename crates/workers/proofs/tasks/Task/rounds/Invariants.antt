use Rattle.std.proofs.Common.{◌≡◌, ◌≤◌}
use Rattle.workers.proofs.tasks.Task.rounds.Given as goal

abbrev pub invariant-loop-did : goal.invariant-loop-did
invariant-loop-did g l = (l.self.job ≡ l.fn.self.job) × (l.self.hall ≡ l.fn.self.hall) × (l.self.left ≤ l.fn.self.left)

abbrev pub decreases-loop-did : goal.decreases-loop-did
decreases-loop-did g l = l.self.left
