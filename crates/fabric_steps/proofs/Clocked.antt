-- The n's of the records that belong to a fabric are those of its history as it grew.
use Rattle.std.proofs.Common.{◌≡◌, ℕ, zero, suc, ◌<◌, ◌≤◌, Bool, true, false, List, [], ◌∷◌, take, Some, refl, sym, ap, ◌∙◌, inl, inr, arith}
use Rattle.std.specs.Prelude.{slice_get, ◌||◌}
use Rattle.std.specs.List.{list_any}
use Rattle.std.proofs.lemmas.Bool.{cases_lt, eq-eqb}
use Rattle.std.proofs.lemmas.Option.{same_Some}
use Rattle.history_words.specs.Records.{Record}
use Rattle.history_words.specs.Clocks.{IsClocked}
use Rattle.history_words.specs.Trace.{is_request, stands}
use Rattle.fabric_steps.specs.Whole.{Whole, Entry, memory_of}
use Rattle.fabric_steps.specs.Trace.{Belongs}

either : (a b : Bool) → b ≡ true → (a || b) ≡ true
either true b e = refl
either false b e = e

in_take : (t : Entry → Bool) (h : List Entry) (n p : ℕ) (e : Entry) → p < n → slice_get h p ≡ Some e → t e ≡ true → list_any t (take n h) ≡ true
in_take t [] n p e l at is = cc
in_take t (x ∷ xs) zero p e l at is = absurd (omega arith)
in_take t (x ∷ xs) (suc n) zero e l at is = rw (ap t (same_Some x e at) ∙ is) refl
in_take t (x ∷ xs) (suc n) (suc p) e l at is = either (t x) (list_any t (take n xs)) (in_take t xs n p e (omega arith) at is)

not_before : (h : List Entry) (n p : ℕ) (e : Entry) → stands (take n h) e.requester e.number ≡ false → slice_get h p ≡ Some e → n ≤ p
not_before h n p e none at = elim (cases_lt p n) [
  | inl l ↦
      let there : stands (take n h) e.requester e.number ≡ true = in_take (is_request e.requester e.number) h n p e l at (rw (eq-eqb e.requester e.requester refl, eq-eqb e.number e.number refl) refl) in
      let clash : true ≡ false = sym there ∙ none in
      absurd (cc)
  | inr m ↦ m
]

pub belongs_clocked : (p : Whole) (rs : List Record) → Belongs p rs → IsClocked (record { memory = memory_of p; records = rs })
belongs_clocked p rs b = record {
  rises = λ a c r s l at there. b.rising a c r s (omega (arith, l)) at there;
  bounded = b.within;
  after_submission = λ q a n e op at there. not_before p.history n q e (b.later a e.requester e.number n op there) at;
}
