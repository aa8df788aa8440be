use Rattle.std.proofs.Common.{◌∙◌, sym, ap, Some}
use Rattle.dllp_core.specs.declared.packet.Class.TheVariants.{Completion}
use Rattle.flow_control.proofs.Walks.{takeable_request, takeable_completion, same_is, differs}
use Rattle.flow_control.proofs.classes.Classes.passes_its_own.Goals as goal

pub returns-then-is_same : goal.returns-then-is_same
returns-then-is_same c all place s k z f =
    c.passes_before.ensures ∙
    takeable_completion place all c.args.self.now c.args.cut s k z
    (f ∙ ap (λ d. Some d) (same_is c.args.class Completion (sym c.is_same.ensures ∙ c.if-is_same.true)))

pub returns : goal.returns
returns c all place s k z f =
    sym (takeable_request place all c.args.cut c.args.class k z f (differs c.args.class Completion (sym c.is_same.ensures ∙ c.if-is_same.false)))
