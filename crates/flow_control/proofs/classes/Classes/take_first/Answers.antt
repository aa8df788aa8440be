use Rattle.std.proofs.Common.{◌∙◌, List, sym, subst}
use Rattle.flow_control.specs.declared.classes.Arrived.{Arrived}
use Rattle.flow_control.specs.Arrivals.{IsSplit}
use Rattle.flow_control.proofs.Taken.{first_item, first_taken, no_first}
use Rattle.flow_control.proofs.classes.Classes.take_first.Goals as goal

pub returns-in_err-class-clause-item : goal.returns-in_err-class-clause-item
returns-in_err-class-clause-item c all s = c.from_residual.ensures ∙ sym (no_first all (sym (c.first.ensures all s) ∙ c.in_err-class.was)).0

pub returns-in_err-class-clause-rest : goal.returns-in_err-class-clause-rest
returns-in_err-class-clause-rest c all s = subst (λ (l : List Arrived). IsSplit l c.args.self.now) (sym (no_first all (sym (c.first.ensures all s) ∙ c.in_err-class.was)).1) s

pub returns-clause-item : goal.returns-clause-item
returns-clause-item c all s = c.take_of.ensures.item ∙ first_item all c.args.self.now c.in_ok-class.class s (sym (c.first.ensures all s) ∙ c.in_ok-class.was)

pub returns-clause-rest : goal.returns-clause-rest
returns-clause-rest c all s =
    first_taken all c.args.self.now c.take_of.new.self c.in_ok-class.class s (sym (c.first.ensures all s) ∙ c.in_ok-class.was) c.take_of.ensures.queue c.take_of.ensures.next
