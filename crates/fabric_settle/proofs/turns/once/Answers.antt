use Rattle.std.proofs.Common.{◌≡◌, ◌∙◌, sym, subst, Err}
use Rattle.fabric_steps.specs.Event.{Event}
use Rattle.fabric_core.specs.Answers.{answer}
use Rattle.fabric_settle.specs.Rounds.{is_move}
use Rattle.fabric_settle.proofs.RoundLemmas.{of_event, does_happen, does_stay, goes_on, refused_goes, moved_before, moved_now}
use Rattle.fabric_settle.proofs.turns.once.Goals as goal

pub returns-then-moved-clause-state : goal.returns-then-moved-clause-state
returns-then-moved-clause-state g c =
    let w = g.W.Witness in
    does_happen (w.saw c.args.line) c.args.fabric.now c.happen.new.fabric (w.kept c.args.witness.now) (w.kept c.happen.new.witness) c.args.moved.now c.args.moved.now c.args.event.now
    (of_event c.lend.ensures c.in-Ok.ensures.ok) (moved_before c.args.moved.now (is_move c.args.event.now) c.if-moved.true)

pub returns-then-moved-clause-went : goal.returns-then-moved-clause-went
returns-then-moved-clause-went g c =
    let w = of_event c.lend.ensures c.in-Ok.ensures.ok in
    goes_on c.args.fabric.now c.happen.new.fabric c.args.event.now w.what w.happens.0

pub returns-else-moved-clause-state : goal.returns-else-moved-clause-state
returns-else-moved-clause-state g c =
    let w = g.W.Witness in
    does_happen (w.saw c.args.line) c.args.fabric.now c.happen.new.fabric (w.kept c.args.witness.now) (w.kept c.happen.new.witness) c.args.moved.now c.is_move.result c.args.event.now
    (of_event c.lend.ensures c.in-Ok.ensures.ok) (moved_now c.args.moved.now (is_move c.args.event.now) c.is_move.result c.if-moved.false c.is_move.ensures)

pub returns-else-moved-clause-went : goal.returns-else-moved-clause-went
returns-else-moved-clause-went g c =
    let w = of_event c.lend.ensures c.in-Ok.ensures.ok in
    goes_on c.args.fabric.now c.happen.new.fabric c.args.event.now w.what w.happens.0

pub returns-in-Err-2-clause-state : goal.returns-in-Err-2-clause-state
returns-in-Err-2-clause-state g c =
    let w = g.W.Witness in
    let told = c.in-Err.ensures.told (sym c.is_memory.ensures ∙ c.if-is_memory.false) in
    does_stay (w.saw c.args.line) c.args.fabric.now c.happen.new.fabric (w.kept c.args.witness.now) (w.kept c.happen.new.witness) c.args.moved.now c.args.event.now c.in-Err.refusal
    (subst (λ (e : Event). answer c.args.fabric.now e ≡ Err c.in-Err.refusal) c.lend.ensures told.0) told.1 told.2

pub returns-in-Err-2-clause-went : goal.returns-in-Err-2-clause-went
returns-in-Err-2-clause-went g c =
    let told = c.in-Err.ensures.told (sym c.is_memory.ensures ∙ c.if-is_memory.false) in
    sym (refused_goes c.args.fabric.now c.args.event.now c.in-Err.refusal (subst (λ (e : Event). answer c.args.fabric.now e ≡ Err c.in-Err.refusal) c.lend.ensures told.0))
