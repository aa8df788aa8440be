use Rattle.std.proofs.Common.{◌≡◌, ◌+◌, ◌<◌, List, length, get_or, ◌++◌, ◌∷◌, [], ◌∙◌, map, drop, sym, subst, ap, refl, append-nil, append_assoc, rules, arith}
use Rattle.std.proofs.lemmas.List.{length-map}
use Rattle.hall_core.specs.Views.{HallView, IsSeatOf}
use Rattle.worker_requester.specs.Following.{Finishes}
use Rattle.workers.specs.Running.{AreSeats, AreHandles, AreRecorded}
use Rattle.workers.proofs.Rows.{seats_more, split_at, finished_step, recorded_more, handles_length, items_of, if_none}
use Rattle.workers.proofs.threads.join_all.Goals as goal

pub loop-script-init : goal.loop-script-init
loop-script-init g c =
    let same = handles_length c.args.run.now.hall c.args.run.now.recorder 1 (map items_of c.args.run.now.plan.scripts.items) c.args.handles.items c.requires.handles in
    let count = length-map c.args.run.now.plan.scripts.items items_of in (
      search rules,
      refl,
      refl,
      omega (arith, c.args.handles.ok.0),
      c.requires.handles,
      search rules,
      subst (AreSeats c.args.run.now.hall) (sym c.in-Ok.ensures.items) tt,
      ([], sym (append-nil c.args.taker.now.taken.known), tt, subst (λ vs. AreRecorded 1 vs []) (sym c.in-Ok.ensures.items) tt),
    )

pub loop-script-preserved : goal.loop-script-preserved
loop-script-preserved g c =
    let i = c.loop-script._script-index in
    let was = c.loop-script.invariant in
    let v = c._script-item.result in
    let whole = c.deref-script-items.ensures.value in
    let within : i < length c.args.run.now.plan.scripts.items = subst (λ (xs : List _). i < length xs) whole c.loop-script-test.true in
    let found : v ≡ get_or c.args.run.now.plan.scripts.items i v = subst (λ (xs : List _). v ≡ get_or xs i v) whole c._script-item.is in
    let ended = c.join-seat.result in
    let kept = c.join-seat.ensures in
    let p = ended.pusher.pushed in
    let first = split_at c.args.run.now.hall c.args.run.now.recorder c.args.run.now.plan.scripts.items i v c.loop-script.handles.items c.remove-handle.result was.4 within found c.remove-handle.ensures.value in
    let here : IsSeatOf c.args.run.now.hall ended.seat = subst (λ (h : HallView). IsSeatOf h ended.seat) first.hall_is kept.0 in
    let all = if_none ended.stop (Finishes c.remove-handle.result.promise.script.now p × (p.records ≡ ended.seat.knows.records)) c.in_default-stop.not-Some kept.4 in
    let number = kept.1 ∙ first.requester_is in
    let from = kept.3 ∙ first.requester_is in
    let count : length c.loop-script.seats.items ≡ i = omega (arith, c.loop-script.seats.ok.0, was.5) in
    let pushed = was.7 in (
      search rules,
      search rules,
      search rules,
      search rules,
      subst (AreHandles c.args.run.now.hall c.args.run.now.recorder (i + 1 + 1) (map (λ s. s.items) (drop (i + 1) c.args.run.now.plan.scripts.items))) (sym c.remove-handle.ensures.items) first.others,
      search rules,
      subst (AreSeats c.args.run.now.hall) (sym c.in-Ok-push.ensures.items) (seats_more c.args.run.now.hall c.loop-script.seats.items ended.seat was.6 here),
      (
        pushed.0 ++ p ∷ [],
        ap (λ t. t.known) c.end.ensures.known ∙ ap (λ l. l ++ p ∷ []) pushed.1 ∙ append_assoc c.args.taker.now.taken.known pushed.0 (p ∷ []),
        finished_step c.args.run.now.plan.scripts.items i v pushed.0 p pushed.2 within found from (subst (λ s. Finishes s p) first.script_is all.0),
        subst (λ vs. AreRecorded 1 vs (pushed.0 ++ p ∷ [])) (sym c.in-Ok-push.ensures.items)
            (recorded_more 1 c.loop-script.seats.items pushed.0 ended.seat p pushed.3 (omega (arith, from, count)) (omega (arith, number, count)) all.1),
      ),
    )
