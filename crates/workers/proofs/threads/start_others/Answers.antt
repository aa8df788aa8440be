use Rattle.std.proofs.Common.{◌≡◌, ◌<◌, ◌∙◌, List, length, get_or, map, take, sym, ap, subst, arith}
use Rattle.workers.specs.declared.threads.Share.{Share}
use Rattle.workers.specs.Running.{AreOfHall}
use Rattle.workers.proofs.Starting.{jobs_in, next_share, next_count, next_fits, promised_more, of_hall_more}
use Rattle.workers.proofs.threads.start_others.Goals as goal

pub tasks_of-requires : goal.tasks_of-requires
tasks_of-requires g c =
    let i = c.loop-jobs.jobs-index in
    let was = c.loop-jobs.invariant in
    let shares = c.args.run.now.shares.items in
    let whole = c.deref-jobs-items.ensures.value in
    let within : i < length shares = subst (λ (xs : List _). i < length xs) whole c.loop-jobs-test.true in
    let found : c.jobs-item.result ≡ get_or shares i c.jobs-item.result = subst (λ (xs : List _). c.jobs-item.result ≡ get_or xs i c.jobs-item.result) whole c.jobs-item.is in
    let fits = next_fits shares i c.jobs-item.result within found in
    (was.0, omega (arith, fits, ap length c.requires.shares.all, was.1, ap length c.as_slice.ensures.value))

pub loop-jobs-preserved : goal.loop-jobs-preserved
loop-jobs-preserved g c =
    let i = c.loop-jobs.jobs-index in
    let was = c.loop-jobs.invariant in
    let shares = c.args.run.now.shares.items in
    let v = c.jobs-item.result in
    let whole = c.deref-jobs-items.ensures.value in
    let within : i < length shares = subst (λ (xs : List _). i < length xs) whole c.loop-jobs-test.true in
    let found : v ≡ get_or shares i v = subst (λ (xs : List _). v ≡ get_or xs i v) whole c.jobs-item.is in
    let count = next_count shares i v within found in
    let here = ap (λ (s : Share). s.jobs.now) c.in_ok-handle.ensures ∙ c.as_slice.ensures.value in (
      c.in_ok-tasks.ensures.seats.0,
      omega (arith, count, was.1, c.in_ok-tasks.ensures.seats.1, ap length c.as_slice.ensures.value),
      ap (map (λ h. h.promise.jobs.now)) c.in_ok-push.ensures.items
          ∙ promised_more c.loop-jobs.handles.items c.in_ok-handle.handle (map jobs_in (take i shares)) v.items was.2 here
          ∙ sym (next_share shares i v within found),
      subst (AreOfHall c.args.run.now.hall) (sym c.in_ok-push.ensures.items)
          (of_hall_more c.args.run.now.hall c.loop-jobs.handles.items c.in_ok-handle.handle was.3 (ap (λ (s : Share). s.hall.now) c.in_ok-handle.ensures)),
    )
