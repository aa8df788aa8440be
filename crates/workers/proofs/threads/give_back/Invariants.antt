use Rattle.std.proofs.Common.{◌≡◌, ◌+◌, vec_len}
use Rattle.hall_core.specs.Views.{HallView}
use Rattle.workers.specs.Tasks.{AreWorkersOf}
use Rattle.workers.specs.Running.{AreSeats}
use Rattle.workers.proofs.threads.give_back.Given as goal

abbrev pub invariant-loop-task : goal.invariant-loop-task
invariant-loop-task g l =
    (vec_len l.tasks + l._task ≡ l.count) × (vec_len l.seats + vec_len l.tasks ≡ vec_len l.fn.seats + l.count)
    × ((hall : HallView) → AreWorkersOf hall l.fn.tasks.items → AreSeats hall l.fn.seats.items → AreWorkersOf hall l.tasks.items × AreSeats hall l.seats.items)
