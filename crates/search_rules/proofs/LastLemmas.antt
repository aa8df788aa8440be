-- The last that can have what it needs acts at once.
use Rattle.std.proofs.Common.{◌≡◌, ◌∙◌, ℕ, ◌+◌, ◌≤◌, true, false, List, [], ◌∷◌, Some, length, refl, sym, ap, subst, inl, inr, arith}
use Rattle.std.specs.Prelude.{slice_get, slice_set}
use Rattle.std.proofs.lemmas.Bool.{cases_eq}
use Rattle.std.proofs.lemmas.Option.{same_Some}
use Rattle.log_runs.specs.EventView as events
use Rattle.log_runs.specs.declared.Step.{Step}
use Rattle.log_runs.specs.declared.Step.TheVariants as steps
use Rattle.log_runs.specs.LogView.{LogView}
use Rattle.log_runs.specs.Runs.{State, MayPass, MayAct, Leads, Live, IsForced, next, acted_on}
use Rattle.search_rules.specs.Rules.{Suits, NeverBrings, Yields, AllOthers, IsLast}
use Rattle.search_rules.proofs.RuleLemmas.{clash, set_there, set_swap, gone_by, same_state, suits, run, before, may_later, pass_later}
use Rattle.search_rules.proofs.LostLemmas.{lost_ends}

module _ (log : LogView) (q a : ℕ) (due : slice_get log.events a ≡ Some (events.Due q)) where
  -- t is s after q
  record Later (s t : State) : Type 0 where
    pub event : t.event ≡ s.event
    pub since : s.event ≤ a
    pub left : slice_get s.acted q ≡ Some false
    pub acted : t.acted ≡ slice_set s.acted q true
    pub there : Suits log.extent s.bytes (slice_get log.events q)
    pub bytes : t.bytes ≡ acted_on log.extent s.bytes (slice_get log.events q)
    pub nobody : AllOthers s q a (λ b. NeverBrings log b q × Yields log b q)

  later_live : (xs : List Step) (s t u : State) → Leads log s xs u → u.event ≡ length log.events → Later s t → Live log t
  later_live [] s t u leads over h = run log t t [] refl (h.event ∙ ap (λ (w : State). w.event) leads ∙ over)
  later_live (steps.Pass ∷ xs) s t u leads over h = elim (cases_eq s.event a) [
    | inl now ↦
        let done : slice_get s.acted q ≡ Some true = subst (MayPass s) (ap (slice_get log.events) now ∙ due) leads.0 in
        absurd (clash refl (same_Some true false (sym done ∙ h.left)))
    | inr other ↦
        before log t steps.Pass (subst (λ e. MayPass t (slice_get log.events e)) (sym h.event) (pass_later log q s t h.acted (slice_get log.events s.event) leads.0))
        (later_live xs (next log s steps.Pass) (next log t steps.Pass) u leads.1 over (record {
          event = ap (λ e. e + 1) h.event;
          since = omega (arith, h.since, other);
          left = h.left;
          acted = h.acted;
          there = h.there;
          bytes = h.bytes;
          nobody = h.nobody;
        }))
  ]
  later_live (steps.Act b ∷ xs) s t u leads over h = elim (cases_eq q b) [
    | inl same ↦
        let e : next log s (steps.Act q) ≡ t = same_state (next log s (steps.Act q)) t (sym h.event) (sym h.acted) (sym h.bytes) in
        subst (Live log) (ap (λ c. next log s (steps.Act c)) (sym same) ∙ e) (run log (next log s (steps.Act b)) u xs leads.1 over)
    | inr other ↦
        let m : MayAct log s b = leads.0 in
        let s2 = next log s (steps.Act b) in
        let left : slice_get s2.acted q ≡ Some false = set_there s.acted b q true (λ e. other (sym e)) ∙ h.left in
        let nobody : AllOthers s2 q a (λ c. NeverBrings log c q × Yields log c q) = λ c l o e. h.nobody c l o (gone_by s.acted b c m.once e).1 in
        let (brings, yields) = h.nobody b (omega (arith, m.since, h.since)) other m.once in
        elim (yields s.bytes (suits log s b m) h.there) [
          | inl broken ↦ absurd (lost_ends log q a xs s2 u leads.1 over (record {
            due = due;
            since = h.since;
            left = left;
            gone = broken;
            nobody = λ c l o e. (nobody c l o e).0;
          }))
          | inr kept ↦
              before log t (steps.Act b)
              (may_later log q s t b h.event h.acted other m (subst (λ k. Suits log.extent k (slice_get log.events b)) (sym h.bytes) kept.1))
              (later_live xs s2 (next log t (steps.Act b)) u leads.1 over (record {
                event = h.event;
                since = h.since;
                left = left;
                acted = ap (λ ys. slice_set ys b true) h.acted ∙ set_swap s.acted q b true true other;
                there = kept.0;
                bytes = ap (λ k. acted_on log.extent k (slice_get log.events b)) h.bytes ∙ sym kept.2;
                nobody = nobody;
              }))
        ]
  ]

pub last_is_forced : (log : LogView) (s : State) (q a : ℕ) → IsLast log s q a → IsForced log s (steps.Act q)
last_is_forced log s q a h = record {
  allowed = h.may;
  live = λ l. later_live log q a h.due l.steps s (next log s (steps.Act q)) l.last l.leads l.over (record {
    event = refl;
    since = h.since;
    left = h.may.once;
    acted = refl;
    there = suits log s q h.may;
    bytes = refl;
    nobody = h.nobody;
  });
}
