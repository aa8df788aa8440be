use Rattle.std.proofs.Common.{sym, ◌∙◌, subst, List}
use Rattle.flow_control.specs.declared.classes.Arrived.{Arrived}
use Rattle.flow_control.specs.Arrivals.{IsSplit}
use Rattle.flow_control.proofs.Taken.{taken_item, taken_at, none_at}
use Rattle.flow_control.proofs.classes.Classes.take.Goals as goal

pub returns-in_err-class-clause-item : goal.returns-in_err-class-clause-item
returns-in_err-class-clause-item c all s =
    c.from_residual.ensures ∙ sym (none_at all c.args.place c.args.self.now c.cut-cut.result c.oldest.result s (c.cut-cut.ensures all s) c.oldest.ensures.first c.in_err-class.was).1

pub returns-in_err-class-clause-rest : goal.returns-in_err-class-clause-rest
returns-in_err-class-clause-rest c all s =
    subst (λ (l : List Arrived). IsSplit l c.args.self.now) (sym (none_at all c.args.place c.args.self.now c.cut-cut.result c.oldest.result s (c.cut-cut.ensures all s) c.oldest.ensures.first c.in_err-class.was).2) s

pub returns-clause-item : goal.returns-clause-item
returns-clause-item c all s =
    rw (c.count.ensures) at c.take_of.ensures.item ∙
    taken_item all c.args.place c.args.self.now c.cut-cut.result c.oldest.result c.in_ok-class.class s (c.cut-cut.ensures all s) c.oldest.ensures.first c.in_ok-class.was

pub returns-clause-rest : goal.returns-clause-rest
returns-clause-rest c all s =
    taken_at all c.args.place c.args.self.now c.take_of.new.self c.cut-cut.result c.oldest.result c.in_ok-class.class s (c.cut-cut.ensures all s) c.oldest.ensures.first c.in_ok-class.was
    (rw (c.count.ensures) at c.take_of.ensures.queue) c.take_of.ensures.next
