use Rattle.std.proofs.Common.{◌∙◌, ◌+◌, ◌++◌, ◌∷◌, [], ℕ, List, ap, sym, subst, append_assoc, arith}
use Rattle.script_text.specs.LineTexts.{event_line}
use Rattle.generate_engine.specs.Script.{IsUnderWay, BeginsScript}
use Rattle.generate_engine.proofs.Scripts.{script-next, begins-all, on_err}
use Rattle.generate_engine.proofs.generator.Generator.fill.Goals as goal

pub loop-event-init : goal.loop-event-init
loop-event-init c = λ storm n written u.
    subst (λ (k : ℕ). IsUnderWay storm k (written ++ c.args.self.now.pending.items) c.args.self.now.fabric c.args.self.now.chooser) (omega arith) u

pub loop-event-preserved : goal.loop-event-preserved
loop-event-preserved c = λ storm n written u.
    let e = c.in_ok-put_next.ensures.ok in
    let old = c.loop-event.self in
    let new = c.put_next.new.self in
    let before = old.pending.items in
    let so_far = c.loop-event.invariant storm n written u in
    script-next storm (n + c.loop-event._event) (n + (c.loop-event._event + 1)) (written ++ before) (written ++ new.pending.items) old.fabric new.fabric old.chooser new.chooser e.0
    so_far (omega arith) e.1
    (c.counted_events_are_fated.ensures.next storm.lose storm.corrupt so_far.script.events e.0 old.chooser.arrived new.chooser.arrived e.1.spelled so_far.counted e.2)
    (ap (λ (t : List ℕ). written ++ t) e.3 ∙ sym (append_assoc written before (event_line e.0 ++ 10 ∷ [])))

pub returns-in_err-put_next-clause-err : goal.returns-in_err-put_next-clause-err
returns-in_err-put_next-clause-err c = on_err c.from_residual.result (λ storm n written u.
    let below = c.loop-event-test.true in
    let old = c.loop-event.self in
    subst (λ (t : List ℕ). BeginsScript storm (n + c.args.count) (written ++ t)) (sym c.in_err-put_next.ensures.err)
    (begins-all storm (n + c.loop-event._event) (n + c.args.count) (written ++ old.pending.items) old.fabric old.chooser (omega arith) (c.loop-event.invariant storm n written u)))

pub returns-clause-ok : goal.returns-clause-ok
returns-clause-ok c = λ storm n written u.
    let all = c.loop-event-test.false in
    let few = c.loop-event.auto._event-end in
    let end = c.loop-event.self in
    subst (λ (k : ℕ). IsUnderWay storm (n + k) (written ++ end.pending.items) end.fabric end.chooser) (omega arith) (c.loop-event.invariant storm n written u)
