use Rattle.std.proofs.Common.{◌<◌, length, sym, ap, subst, rules, arith}
use Rattle.workers.specs.Tasks.{AreTasks, AreWorkersOf}
use Rattle.workers.specs.Running.{AreSeats, AreOfHall}
use Rattle.workers.proofs.Returning.{jobs_with, all_jobs_with, first_share, tasks_count, tasks_of_hall}
use Rattle.workers.proofs.threads.join_others.Goals as goal

pub loop-share-init : goal.loop-share-init
loop-share-init g c = (
  search rules,
  omega (arith, c.new-seats.ensures.len, all_jobs_with c.args.handles.items, ap length c.requires.shares.all),
  c.requires.hall,
  subst (AreSeats c.args.run.now.hall) (sym c.new-seats.ensures.items) tt,
)

pub loop-share-preserved : goal.loop-share-preserved
loop-share-preserved g c =
    let i = c.loop-share.invariant in
    let hall = c.args.run.now.hall in
    let h = c.remove-handle.result in
    let some : 0 < length c.loop-share.handles.items = omega (arith, i.0, c.loop-share.handles.ok.0, c.loop-share-test.true) in
    let first = first_share hall c.loop-share.handles.items h i.2 some c.remove-handle.ensures.value in
    let kept : AreTasks h.promise.hall.now h.promise.jobs.now c.join.result.items = c.join.ensures in
    let mine : AreWorkersOf hall c.join.result.items = subst (λ x. AreWorkersOf x c.join.result.items) first.hall_is (tasks_of_hall h.promise.hall.now h.promise.jobs.now c.join.result.items kept) in
    let many = tasks_count h.promise.hall.now h.promise.jobs.now c.join.result.items kept in
    let rest = ap jobs_with c.remove-handle.ensures.items in
    let count = first.count in (
      omega (arith, i.0, c.remove-handle.ensures.len),
      omega (arith, i.1, count, many, rest, c.in_ok-give_back.ensures.count, c.join.result.ok.0),
      subst (AreOfHall hall) (sym c.remove-handle.ensures.items) first.others,
      c.in_ok-give_back.ensures.seats hall mine i.3,
    )
