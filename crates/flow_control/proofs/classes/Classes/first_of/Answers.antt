use Rattle.std.proofs.Common.{◌∙◌, sym, ap, Some, length, arith}
use Rattle.std.proofs.lemmas.Bool.Decides.{nat_tests}
use Rattle.flow_control.specs.Arrivals.{in_order}
use Rattle.flow_control.proofs.Merged.{cut_further}
use Rattle.flow_control.proofs.Walks.{first_of_empty, first_at_end, first_is, past_other, none_left, same_is, differs}
use Rattle.flow_control.proofs.classes.Classes.first_of.Goals as goal

pub returns-then-is_empty : goal.returns-then-is_empty
returns-then-is_empty c = sym (first_of_empty c.args.class (in_order c.args.self.now) c.args.self.now c.requires
    (ap length (sym c.of.ensures) ∙ grind (arith, nat_tests, c.is_empty.ensures, c.if-is_empty.true, c.of.result.now.ok.0)))

pub returns-in_default : goal.returns-in_default
returns-in_default c =
    let k = c.loop-place.invariant in
    sym (first_at_end c.args.class c.loop-place.place (in_order c.args.self.now) c.loop-place.cut k.0 k.1
    (none_left c.loop-place.place (in_order c.args.self.now) c.args.self.now c.loop-place.cut c.oldest.result c.requires k.0 c.oldest.ensures.first c.in_default.is))

pub returns-then-is_same : goal.returns-then-is_same
returns-then-is_same c =
    let k = c.loop-place.invariant in
    sym (first_is c.args.class c.loop-place.place (in_order c.args.self.now) c.args.self.now c.loop-place.cut c.oldest.result c.requires k.0 k.1 c.oldest.ensures.first
    (c.in-Some.is ∙ ap (λ d. Some d) (same_is c.in-Some.oldest c.args.class (sym c.is_same.ensures ∙ c.if-is_same.true))))

pub loop-place-preserved : goal.loop-place-preserved
loop-place-preserved c =
    let k = c.loop-place.invariant in (
      cut_further c.loop-place.place (in_order c.args.self.now) c.loop-place.cut c.past-cut.result c.oldest.result c.in-Some.oldest c.args.self.now c.requires k.0 c.oldest.ensures.first c.in-Some.is c.past-cut.ensures,
      past_other c.in-Some.oldest c.args.class c.loop-place.cut c.past-cut.result (differs c.in-Some.oldest c.args.class (sym c.is_same.ensures ∙ c.if-is_same.false)) c.past-cut.ensures k.1,
    )
