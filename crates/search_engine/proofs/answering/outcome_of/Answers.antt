use Rattle.std.proofs.Common.{◌∙◌, false, ℕ, ◌-◌, ◌∷◌, ◌++◌, [], length, ap, refl, inl, inr, subst, arith, Result, Ok, Err}
use Rattle.record_text.specs.declared.fault.ReadFault.{ReadFault}
use Rattle.history_words.specs.TraceView.{TraceView}
use Rattle.log_pieces.specs.declared.Granularity.{Granularity}
use Rattle.log_events.specs.Formed.{AreFormed}
use Rattle.search_engine.specs.declared.answering.Finding.{Finding}
use Rattle.search_engine.specs.Findings.{AreUnexplained, IsFinding}
use Rattle.search_engine.specs.Search.{IsAnswerTo, none_line}
use Rattle.search_engine.proofs.LookLemmas.{limit_answers}
use Rattle.search_engine.proofs.NoneLemmas.{some-records, up_to_last}
use Rattle.search_engine.proofs.answering.outcome_of.Goals as goal

pub returns-in-None-clause-ok : goal.returns-in-None-clause-ok
returns-in-None-clause-ok c = by
  where
    by : (size : Granularity) (r : Result TraceView ReadFault) → IsFinding size c.args.bounds r c.args.finding.now → IsAnswerTo false size c.args.bounds r c.none_text-line.result.bytes 1
    by size (Ok t) h =
        let is : AreFormed t.records (length t.records) × AreUnexplained size t c.in-None.prefix = subst (λ (f : Finding). IsFinding size c.args.bounds (Ok t) f) c.in-None.is h in
        let some = some-records size t c.in-None.prefix is.1.unexplained in
        inr (
          is.0,
          inr (inl (record {
            place = c.in-None.prefix - 1;
            within = omega (arith, is.1.within, some);
            unexplained = up_to_last size t c.in-None.prefix some is.1.unexplained;
            says = c.none_text-line.ensures ∙ ap (λ (n : ℕ). none_line n ++ 10 ∷ []) c.saturating_sub.ensures;
            tells = refl;
          })),
        )
    by size (Err f) h = absurd (let is : ⊥ = subst (λ (g : Finding). IsFinding size c.args.bounds (Err f) g) c.in-None.is h in is)

pub returns-in-Limit-clause-ok : goal.returns-in-Limit-clause-ok
returns-in-Limit-clause-ok c = λ size r h.
    let limit = c.in-Limit in
    limit_answers false size c.args.bounds r _ limit.ending _ _ _ _
    (subst (λ (f : Finding). IsFinding size c.args.bounds r f) limit.is h) c.given_up_outcome.ensures.text c.given_up_outcome.ensures.status
