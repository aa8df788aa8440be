use Rattle.std.proofs.Common.{◌<◌, length, sym, subst, rules, arith}
use Rattle.hall_core.specs.Views.{HallView, IsSeatOf}
use Rattle.workers.specs.Tasks.{AreWorkersOf}
use Rattle.workers.specs.Running.{AreSeats}
use Rattle.workers.proofs.Rows.{seats_more}
use Rattle.workers.proofs.Returning.{first_worker}
use Rattle.workers.proofs.threads.give_back.Goals as goal

pub loop-task-preserved : goal.loop-task-preserved
loop-task-preserved g c =
    let i = c.loop-task.invariant in
    let some : 0 < length c.loop-task.tasks.items = omega (arith, i.0, c.loop-task.tasks.ok.0, c.loop-task-test.true) in (
      omega (arith, i.0, c.remove-task.ensures.len),
      search rules,
      λ hall all old.
          let was = i.2 hall all old in
          let first = first_worker hall c.loop-task.tasks.items c.remove-task.result was.0 some c.remove-task.ensures.value in
          let here : IsSeatOf hall c.into_seat.result = subst (λ (h : HallView). IsSeatOf h c.into_seat.result) first.0 c.into_seat.ensures in (
            subst (AreWorkersOf hall) (sym c.remove-task.ensures.items) first.1,
            subst (AreSeats hall) (sym c.in_ok-push.ensures.items) (seats_more hall c.loop-task.seats.items c.into_seat.result was.1 here),
          ),
    )

pub returns-clause-seats : goal.returns-clause-seats
returns-clause-seats g c = λ hall all old. (c.loop-task.invariant.2 hall all old).1
