use Rattle.std.proofs.Common.{Bool, sym, subst, OnOk}
use Rattle.c_fabric.specs.Calls.{IsStep}
use Rattle.c_fabric.proofs.EventLemmas.{at_records}
use Rattle.c_fabric.proofs.happening.step.Goals as goal

pub returns-then-is_traced-clause-ok : goal.returns-then-is_traced-clause-ok
returns-then-is_traced-clause-ok c =
    let w = c.args.witness.now in
    let v = c.step_traced.new.witness in
    subst (λ (traced : Bool). OnOk c.step_traced.result (IsStep c.args.fabric.now traced w.records.items c.args.event.now c.step_traced.new.fabric v.records.items v.last.text.bytes))
    (sym c.if-is_traced.true) c.step_traced.ensures.ok

pub returns-else-is_traced-clause-ok : goal.returns-else-is_traced-clause-ok
returns-else-is_traced-clause-ok c =
    let rs = c.args.witness.now.records.items in
    subst (λ (traced : Bool). OnOk c.step_untraced.result (IsStep c.args.fabric.now traced rs c.args.event.now c.step_untraced.new.fabric rs c.step_untraced.new.last.text.bytes))
    (sym c.if-is_traced.false) (at_records c.step_untraced.result c.args.fabric.now c.step_untraced.new.fabric c.step_untraced.new.last.text.bytes c.args.event.now rs c.step_untraced.ensures.ok)
