use Rattle.std.proofs.Common.{◌≡◌, ◌+◌, map, take, vec_len}
use Rattle.workers.specs.Tasks.{kept_of}
use Rattle.workers.specs.Running.{AreWorkSeats}
use Rattle.workers.proofs.threads.tasks_of.Given as goal

abbrev pub invariant-loop-job : goal.invariant-loop-job
invariant-loop-job g l =
    AreWorkSeats l.run.hall l.seats.items × (vec_len l.seats + l.job-index ≡ vec_len l.fn.seats) × (map kept_of l.tasks.items ≡ map (λ j. (j, l.run.hall)) (take l.job-index l.jobs))
