use Rattle.std.proofs.Common.{◌≡◌, ◌+◌, ◌<◌, ◌∙◌, List, length, get_or, map, take, sym, subst, rules, arith}
use Rattle.workers.specs.Running.{AreUnusedSeats, AreHandles}
use Rattle.workers.proofs.Rows.{seats_next, handles_step}
use Rattle.workers.proofs.threads.start_all.Goals as goal

pub loop-script-preserved : goal.loop-script-preserved
loop-script-preserved g c =
    let i = c.loop-script.script-index in
    let was = c.loop-script.invariant in
    let h = c.in_ok-handle.ensures in
    let whole = c.deref-script-items.ensures.value in
    let within : i < length c.args.run.now.plan.scripts.items = subst (λ (xs : List _). i < length xs) whole c.loop-script-test.true in
    let found : c.script-item.result ≡ get_or c.args.run.now.plan.scripts.items i c.script-item.result = subst (λ (xs : List _). c.script-item.result ≡ get_or xs i c.script-item.result) whole c.script-item.is in
    let seats = seats_next c.args.run.now.hall (i + 1) c.loop-script.seats.items was.2 (omega (arith, c.loop-script.seats.ok.0)) in
    let more = handles_step c.args.run.now.hall c.args.run.now.recorder c.args.run.now.plan.scripts.items i c.loop-script.handles.items c.script-item.result c.in_ok-handle.handle was.6
    within found h.0 h.1 (h.2 ∙ c.as_slice.ensures.value) (h.3 ∙ omega arith) in (
      search rules,
      search rules,
      subst (AreUnusedSeats c.args.run.now.hall (i + 1 + 1)) (sym c.remove-seat.ensures.items) seats,
      search rules,
      search rules,
      search rules,
      subst (AreHandles c.args.run.now.hall c.args.run.now.recorder 1 (map (λ s. s.items) (take (i + 1) c.args.run.now.plan.scripts.items))) (sym c.in_ok-push.ensures.items) more,
    )
