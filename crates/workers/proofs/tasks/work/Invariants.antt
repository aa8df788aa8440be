use Rattle.std.proofs.Common.{◌≡◌, map}
use Rattle.workers.specs.Tasks.{turns_left, kept_of}
use Rattle.workers.proofs.tasks.work.Given as goal

abbrev pub invariant-loop-did : goal.invariant-loop-did
invariant-loop-did g l = map kept_of l.tasks ≡ map kept_of l.fn.tasks

abbrev pub decreases-loop-did : goal.decreases-loop-did
decreases-loop-did g l = turns_left l.tasks
