use Rattle.std.proofs.Common.{◌≡◌, ◌<◌, ◌≤◌, IfSome, map}
use Rattle.workers.specs.Tasks.{turns_left, kept_of}
use Rattle.workers.proofs.tasks.all_round.Given as goal

abbrev pub invariant-loop-task : goal.invariant-loop-task
invariant-loop-task g l = (turns_left l.tasks ≤ turns_left l.fn.tasks) × IfSome l.went (λ _. turns_left l.tasks < turns_left l.fn.tasks) × (map kept_of l.tasks ≡ map kept_of l.fn.tasks)
