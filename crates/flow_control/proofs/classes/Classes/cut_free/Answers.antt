use Rattle.std.proofs.Common.{◌∙◌, sym, ap, Some, arith}
use Rattle.dllp_core.specs.declared.packet.Class.TheVariants.{Posted}
use Rattle.flow_control.proofs.Merged.{cut_further}
use Rattle.flow_control.proofs.Walks.{past_the_end, behind_posted, past_free, same_is, differs}
use Rattle.flow_control.proofs.classes.Classes.cut_free.Goals as goal

pub returns-in_default : goal.returns-in_default
returns-in_default c all s =
    let k = c.loop-before.invariant all s in
    past_the_end c.loop-before._before c.args.place all c.args.self.now c.loop-before.cut c.oldest.result (omega arith) s k.0 c.oldest.ensures.first c.in_default.is

pub returns-then-is_same : goal.returns-then-is_same
returns-then-is_same c all s =
    let k = c.loop-before.invariant all s in
    behind_posted c.loop-before._before c.args.place all c.args.self.now c.loop-before.cut c.oldest.result (omega arith) s k.0 c.oldest.ensures.first
    (c.in-Some.is ∙ ap (λ d. Some d) (same_is c.in-Some.class Posted (sym c.is_same.ensures ∙ c.if-is_same.true)))

pub loop-before-preserved : goal.loop-before-preserved
loop-before-preserved c all s =
    let k = c.loop-before.invariant all s in (
      cut_further c.loop-before._before all c.loop-before.cut c.past-cut.result c.oldest.result c.in-Some.class c.args.self.now s k.0 c.oldest.ensures.first c.in-Some.is c.past-cut.ensures,
      past_free c.in-Some.class c.loop-before.cut c.past-cut.result (differs c.in-Some.class Posted (sym c.is_same.ensures ∙ c.if-is_same.false)) c.past-cut.ensures k.1,
    )
