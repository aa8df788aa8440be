-- No answer stands before the entry of its request.
use Rattle.std.proofs.Common.{◌≡◌, ◌∙◌, ℕ, zero, suc, ◌+◌, ◌<◌, ◌≤◌, List, [], ◌∷◌, Some, length, subst, ap, inl, inr, arith}
use Rattle.std.specs.Prelude.{slice_get, slice_set, slice_index}
use Rattle.std.proofs.lemmas.Bool.{cases_eq}
use Rattle.std.proofs.lemmas.Option.{slice_get_within}
use Rattle.log_runs.specs.EventView as events
use Rattle.log_runs.specs.LogView.{LogView}
use Rattle.search_others.specs.Known.{AreEarliest, AreLower}

pub beyond : (xs : List ℕ) (b n : ℕ) → length xs ≤ b → slice_index xs b ≤ n
beyond [] b n l = omega arith
beyond (x ∷ xs) zero n l = absurd (omega (arith, l))
beyond (x ∷ xs) (suc b) n l = beyond xs b n (omega (arith, l))

pub lower_set : (xs : List ℕ) (i most : ℕ) → most ≤ slice_index xs i → AreLower xs (slice_set xs i most)
lower_set [] i most l b = omega arith
lower_set (x ∷ xs) zero most l zero = l
lower_set (x ∷ xs) zero most l (suc b) = omega arith
lower_set (x ∷ xs) (suc i) most l zero = omega arith
lower_set (x ∷ xs) (suc i) most l (suc b) = lower_set xs i most l b

pub cut_set : (xs : List ℕ) (i most : ℕ) → slice_index (slice_set xs i most) i ≤ most
cut_set [] i most = omega arith
cut_set (x ∷ xs) zero most = omega arith
cut_set (x ∷ xs) (suc i) most = cut_set xs i most

-- the answers before place n
abbrev pub AreEarliestTo : LogView → List ℕ → ℕ → Type 0
AreEarliestTo log due n = (a b : ℕ) → a < n → slice_get log.events a ≡ Some (events.Due b) → slice_index due b ≤ a

pub earliest_next : (log : LogView) (xs ys : List ℕ) (n : ℕ) → AreEarliestTo log xs n → AreLower xs ys → ((b : ℕ) → slice_get log.events n ≡ Some (events.Due b) → slice_index ys b ≤ n)
    → AreEarliestTo log ys (n + 1)
earliest_next log xs ys n before lower here a b l at = elim (cases_eq n a) as (λ z. slice_index ys b ≤ a) [
  | inl same ↦ subst (λ k. slice_index ys b ≤ k) same (here b (ap (slice_get log.events) same ∙ at))
  | inr other ↦ omega (arith, lower b, before a b (omega (arith, l, other)) at)
]

pub earliest_end : (log : LogView) (xs : List ℕ) (n : ℕ) → length log.events ≤ n → AreEarliestTo log xs n → AreEarliest log xs
earliest_end log xs n l all a b at = all a b (omega (arith, l, slice_get_within log.events a (events.Due b) at)) at

pub earliest_lower : (log : LogView) (xs ys : List ℕ) → AreEarliest log xs → AreLower xs ys → AreEarliest log ys
earliest_lower log xs ys all lower a b at = omega (arith, lower b, all a b at)
