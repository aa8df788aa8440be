-- What is needed, isn't there and doesn't come.
use Rattle.std.proofs.Common.{◌≡◌, ◌∙◌, ◌≤◌, ℕ, true, false, List, [], ◌∷◌, Some, length, refl, sym, ap, subst, inl, inr, arith}
use Rattle.std.specs.Prelude.{slice_get, slice_index}
use Rattle.std.proofs.lemmas.Bool.{cases_eq}
use Rattle.std.proofs.lemmas.Option.{same_Some, slice_get_within}
use Rattle.log_runs.specs.EventView as events
use Rattle.log_runs.specs.declared.Step.{Step}
use Rattle.log_runs.specs.declared.Step.TheVariants as steps
use Rattle.log_runs.specs.LogView.{LogView}
use Rattle.log_runs.specs.Runs.{State, MayPass, MayAct, Leads, Dead, next, acted_on}
use Rattle.search_rules.specs.Rules.{Suits, AllOthers, IsLost, LacksByte}
use Rattle.search_rules.proofs.RuleLemmas.{clash, set_there, gone_by, suits}

-- request q, which is due at place a, needs bytes that are P; they aren't, and nobody makes them so before
record IsWanting (log : LogView) (q a : ℕ) (P : List ℕ → Type 0) (s : State) : Type 0 where
  due : slice_get log.events a ≡ Some (events.Due q)
  since : s.event ≤ a
  left : slice_get s.acted q ≡ Some false
  needs : (m : List ℕ) → Suits log.extent m (slice_get log.events q) → P m
  gone : P s.bytes → ⊥
  nobody : AllOthers s q a (λ b. (m : List ℕ) → Suits log.extent m (slice_get log.events b) → P (acted_on log.extent m (slice_get log.events b)) → P m)

module _ (log : LogView) (q a : ℕ) (P : List ℕ → Type 0) where
  wanting_ends : (xs : List Step) (s t : State) → Leads log s xs t → t.event ≡ length log.events → IsWanting log q a P s → ⊥
  wanting_ends [] s t leads over h = omega (arith, ap (λ (u : State). u.event) leads, over, h.since, slice_get_within log.events a (events.Due q) h.due)
  wanting_ends (steps.Pass ∷ xs) s t leads over h = elim (cases_eq s.event a) [
    | inl now ↦
        let acted : slice_get s.acted q ≡ Some true = subst (MayPass s) (ap (slice_get log.events) now ∙ h.due) leads.0 in
        clash refl (same_Some true false (sym acted ∙ h.left))
    | inr other ↦ wanting_ends xs (next log s steps.Pass) t leads.1 over (record {
      due = h.due;
      since = omega (arith, h.since, other);
      left = h.left;
      needs = h.needs;
      gone = h.gone;
      nobody = h.nobody;
    })
  ]
  wanting_ends (steps.Act b ∷ xs) s t leads over h = elim (cases_eq q b) [
    | inl same ↦ h.gone (h.needs s.bytes (suits log s q (subst (MayAct log s) (sym same) leads.0)))
    | inr other ↦
        let m : MayAct log s b = leads.0 in
        wanting_ends xs (next log s (steps.Act b)) t leads.1 over (record {
          due = h.due;
          since = h.since;
          left = set_there s.acted b q true (λ e. other (sym e)) ∙ h.left;
          needs = h.needs;
          gone = λ e. h.gone (h.nobody b (omega (arith, m.since, h.since)) other m.once s.bytes (suits log s b m) e);
          nobody = λ c l o e. h.nobody c l o (gone_by s.acted b c m.once e).1;
        })
  ]

pub lost_ends : (log : LogView) (q a : ℕ) (xs : List Step) (s t : State) → Leads log s xs t → t.event ≡ length log.events → IsLost log s q a → ⊥
lost_ends log q a xs s t leads over h =
    wanting_ends log q a (λ m. Suits log.extent m (slice_get log.events q)) xs s t leads over (record {
      due = h.due;
      since = h.since;
      left = h.left;
      needs = λ m there. there;
      gone = h.gone;
      nobody = h.nobody;
    })

pub lost_is_dead : (log : LogView) (s : State) (q a : ℕ) → IsLost log s q a → Dead log s
lost_is_dead log s q a h live = lost_ends log q a live.steps s live.last live.leads live.over h

pub lacking_is_dead : (log : LogView) (s : State) (q a k v : ℕ) → LacksByte log s q a k v → Dead log s
lacking_is_dead log s q a k v h live =
    wanting_ends log q a (λ m. slice_index m k ≡ v) live.steps s live.last live.leads live.over (record {
      due = h.due;
      since = h.since;
      left = h.left;
      needs = h.needs;
      gone = h.gone;
      nobody = h.nobody;
    })
