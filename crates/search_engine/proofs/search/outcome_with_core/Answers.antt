use Rattle.std.proofs.Common.{◌≡◌, true, false, IfSome, subst, sym}
use Rattle.std.proofs.lemmas.Result.{IfOk-weaker}
use Rattle.search_run.specs.declared.exploring.Bounds.{Bounds}
use Rattle.search_engine.specs.Bounded.{bounds_of}
use Rattle.search_engine.specs.Findings.{text_of, IsFinding, IsNoneFinding}
use Rattle.search_engine.specs.Search.{IsAnswerTo, IsUnexplainedText}
use Rattle.search_engine.proofs.CoreLemmas.{core_answers, plain_answers}
use Rattle.search_engine.proofs.search.outcome_with_core.Goals as goal

pub returns-in-Some-clause-answers : goal.returns-in-Some-clause-answers
returns-in-Some-clause-answers c = λ r h.
    let none = subst (λ o. IfSome o (λ v. IsNoneFinding c.args.finding.now)) c.in-Some.is c.in_ok-core.ensures.none in
    let asked = subst (λ o. IfSome o (λ v. c.args.demand.has_core ≡ true)) c.in-Some.is c.in_ok-core.ensures.asked in
    let few = subst (λ o. IfSome o (λ v. IsUnexplainedText v.items)) c.in-Some.is c.in_ok-core.ensures.unexplained in
    core_answers c.args.demand.has_core c.args.demand.options.granularity (bounds_of c.args.demand) r c.args.finding.now c.in-Some.text.items h none asked few

pub returns-in-None-clause-answers : goal.returns-in-None-clause-answers
returns-in-None-clause-answers c = λ r h.
    let size = c.args.demand.options.granularity in
    let found = subst (λ (b : Bounds). IsFinding size b r c.args.finding.now) (sym c.bounds.ensures) h in
    IfOk-weaker c.outcome_of.result _ _
    (λ o w. plain_answers c.args.demand.has_core size (bounds_of c.args.demand) r _ _ (subst (λ (b : Bounds). IsAnswerTo false size b r (text_of o.text) o.status) c.bounds.ensures w))
    (c.outcome_of.ensures.ok size r found)
