use Rattle.std.proofs.Common.{◌≡◌, ◌+◌, map, take, vec_len, length}
use Rattle.workers.specs.Jobs.{jobs_of}
use Rattle.workers.specs.Running.{AreWorkSeats, AreOfHall}
use Rattle.workers.proofs.Starting.{jobs_in, first_jobs}
use Rattle.workers.proofs.threads.start_others.Given as goal

abbrev pub invariant-loop-jobs : goal.invariant-loop-jobs
invariant-loop-jobs g l =
    let i = l.jobs-index in
    AreWorkSeats l.run.hall l.seats.items × (vec_len l.seats + length (first_jobs i l.run.shares.items) ≡ length (jobs_of l.run.plan.config.requesters))
    × (map (λ h. h.promise.jobs.now) l.handles.items ≡ map jobs_in (take i l.run.shares.items)) × AreOfHall l.run.hall l.handles.items
