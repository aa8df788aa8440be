use Rattle.std.proofs.Common.{◌∙◌, sym}
use Rattle.flow_control.proofs.Walks.{first_lent, no_first_lent}
use Rattle.flow_control.proofs.classes.Classes.lend_first.Goals as goal

pub returns-in_default : goal.returns-in_default
returns-in_default c all s = no_first_lent all (sym (c.first.ensures all s) ∙ c.in_default.is)

pub returns : goal.returns
returns c all s = first_lent all c.args.self.now c.in-Some.class c.get.result s (sym (c.first.ensures all s) ∙ c.in-Some.is) (rw (← c.of.ensures) c.get.ensures.item)
