use Rattle.std.proofs.Common.{◌≡◌, ◌∙◌, ◌-◌, ◌++◌, [], ◌∷◌, length, ap, refl, inl, inr, subst, arith, Result, Ok, Err}
use Rattle.record_text.specs.declared.fault.ReadFault.{ReadFault}
use Rattle.history_words.specs.TraceView.{TraceView}
use Rattle.log_events.specs.Formed.{AreFormed}
use Rattle.log_text.specs.LogReaderView.{seen_of}
use Rattle.search_run.specs.declared.exploring.Bounds.{Bounds}
use Rattle.search_engine.specs.Bounded.{bound_line, bounds_of}
use Rattle.search_engine.specs.declared.answering.Finding.{Finding}
use Rattle.search_engine.specs.Drawn.{IsAnswerDrawn}
use Rattle.search_engine.specs.Findings.{AreUnexplained, IsFinding}
use Rattle.search_engine.proofs.LookLemmas.{limit_is_drawn}
use Rattle.search_engine.proofs.NoneLemmas.{some-records, up_to_last}
use Rattle.search_engine.proofs.drawing.outcome_drawn.Goals as goal

pub returns-in_ok-picture-in-None : goal.returns-in_ok-picture-in-None
returns-in_ok-picture-in-None c = by
  where
    by : (r : Result TraceView ReadFault) → IsFinding c.args.demand.options.granularity (bounds_of c.args.demand) r c.args.finding.now → seen_of c.args.text.now ≡ r
        → IsAnswerDrawn c.args.demand.options.granularity (bounds_of c.args.demand) c.args.text.now r c.in_ok-picture-in-None.picture.items 1
    by (Ok t) h seen =
        let size = c.args.demand.options.granularity in
        let is : AreFormed t.records (length t.records) × AreUnexplained size t c.in-None.prefix = subst (λ (f : Finding). IsFinding size (bounds_of c.args.demand) (Ok t) f) c.in-None.is h in
        let some = some-records size t c.in-None.prefix is.1.unexplained in
        inr (
          is.0,
          inr (inl (record {
            place = c.in-None.prefix - 1;
            within = omega (arith, is.1.within, some);
            unexplained = up_to_last size t c.in-None.prefix some is.1.unexplained;
            says = c.in_ok-picture-in-None.ensures t seen;
            tells = refl;
          })),
        )
    by (Err f) h seen = absurd (let is : ⊥ = subst (λ (g : Finding). IsFinding c.args.demand.options.granularity (bounds_of c.args.demand) (Err f) g) c.in-None.is h in is)

pub returns-in-Limit : goal.returns-in-Limit
returns-in-Limit c = λ r h seen.
    let size = c.args.demand.options.granularity in
    let limit = c.in-Limit in
    limit_is_drawn size (bounds_of c.args.demand) c.args.text.now r _ limit.ending _ _ _ _
    (subst (λ (f : Finding). IsFinding size (bounds_of c.args.demand) r f) limit.is h)
    (c.given_up_outcome.ensures.text ∙ ap (λ (b : Bounds). bound_line b limit.ending.bound ++ 10 ∷ []) c.bounds.ensures) c.given_up_outcome.ensures.status
