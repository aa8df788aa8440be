use Rattle.std.proofs.Common.{◌≡◌, ◌+◌, vec_len, length}
use Rattle.workers.specs.Jobs.{jobs_of}
use Rattle.workers.specs.Running.{AreSeats, AreOfHall}
use Rattle.workers.proofs.Returning.{jobs_with}
use Rattle.workers.proofs.threads.join_others.Given as goal

abbrev pub invariant-loop-share : goal.invariant-loop-share
invariant-loop-share g l =
    (vec_len l.handles + l._share ≡ l.count) × (vec_len l.seats + jobs_with l.handles.items ≡ length (jobs_of l.run.plan.config.requesters))
    × AreOfHall l.run.hall l.handles.items × AreSeats l.run.hall l.seats.items
