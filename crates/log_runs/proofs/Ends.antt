-- Lists with one element more, and what is found in a list.
use Rattle.std.proofs.Common.{◌≡◌, ◌∙◌, ◌⊎◌, ℕ, zero, suc, ◌+◌, ◌<◌, true, false, List, [], ◌∷◌, ◌++◌, Some, take, drop, length, refl, sym, ap, arith, inl, inr, add-one}
use Rattle.std.specs.Prelude.{slice_get, ◌||◌}
use Rattle.std.proofs.lemmas.Bool.{cases_eq, cases_Bool, eqb-true, and_parts}
use Rattle.std.proofs.lemmas.Option.{same_Some}
use Rattle.tlp_core.specs.Ops.{Op}
use Rattle.tlp_core.specs.Operation.{is_posted}
use Rattle.seq_memory.specs.Entries.{Entry}
use Rattle.history_words.specs.Records.{Record}
use Rattle.history_words.specs.declared.record.RecordOf.TheVariants as records
use Rattle.history_words.specs.Trace.{is_request, stands}

pub get_front : {X : Type 0} → (xs : List X) (y : X) (p : ℕ) (x : X) → slice_get xs p ≡ Some x → slice_get (xs ++ y ∷ []) p ≡ Some x
get_front [] y p x at = cc
get_front (z ∷ zs) y zero x at = at
get_front (z ∷ zs) y (suc p) x at = get_front zs y p x at

-- an element of a list with one more: before, or the last
pub front_or_last : {X : Type 0} → (xs : List X) (y : X) (p : ℕ) (x : X) (P : Type 0) → slice_get (xs ++ y ∷ []) p ≡ Some x → (p < length xs → slice_get xs p ≡ Some x → P) → (p ≡ length xs → y ≡ x → P) → P
front_or_last [] y zero x P at before last = last refl (same_Some y x at)
front_or_last [] y (suc p) x P at before last = absurd (cc)
front_or_last (z ∷ zs) y zero x P at before last = before (omega arith) at
front_or_last (z ∷ zs) y (suc p) x P at before last = front_or_last zs y p x P at (λ l e. before (omega arith) e) (λ l e. last (ap suc l) e)

-- what is left from a place on
drop_more : {X : Type 0} → (xs : List X) (p : ℕ) (x : X) → slice_get xs p ≡ Some x → drop p xs ≡ x ∷ drop (suc p) xs
drop_more [] p x at = cc
drop_more (y ∷ ys) zero x at = ap (λ z. z ∷ ys) (same_Some y x at)
drop_more (y ∷ ys) (suc p) x at = drop_more ys p x at

pub drop_at : {X : Type 0} → (xs : List X) (p : ℕ) (x : X) → slice_get xs p ≡ Some x → drop p xs ≡ x ∷ drop (p + 1) xs
drop_at xs p x at = drop_more xs p x at ∙ ap (λ n. x ∷ drop n xs) (sym (add-one p))

-- ---- what stands in a prefix

pub record Stood (h : List Entry) (n i k : ℕ) : Type 0 where
  pub point : ℕ
  pub op : Op
  pub at : slice_get h point ≡ Some (record { requester = i; number = k; op = op })
  pub before : point < n

pub stood : (h : List Entry) (n i k : ℕ) → stands (take n h) i k ≡ true → Stood h n i k
stood [] zero i k e = cc
stood [] (suc n) i k e = cc
stood (f ∷ h) zero i k e = cc
stood (f ∷ h) (suc n) i k e = elim (cases_Bool (is_request i k f)) [
  | inl hit ↦
      let (one, two) = and_parts _ _ hit in
      record { point = 0; op = f.op; at = rw (eqb-true i f.requester one, eqb-true k f.number two) refl; before = omega arith }
  | inr miss ↦
      let g = stood h n i k (ap (λ b. b || stands (take n h) i k) (sym miss) ∙ e) in
      record { point = suc g.point; op = g.op; at = g.at; before = omega (arith, g.before) }
]

-- ---- the submission of a request that asks for an answer

pub record Asked (before : List Record) (i k : ℕ) : Type 0 where
  pub place : ℕ
  pub op : Op
  pub n : ℕ
  pub at : slice_get before place ≡ Some (records.Sub i k op n)
  pub not_posted : is_posted op ≡ false

abbrev pub Never : List Record → ℕ → ℕ → Type 0
Never before i k = (b : ℕ) (op : Op) (m : ℕ) → slice_get before b ≡ Some (records.Sub i k op m) → is_posted op ≡ true

never_here : (r : Record) (rs : List Record) (i k : ℕ) → Never rs i k → ((op : Op) (m : ℕ) → r ≡ records.Sub i k op m → is_posted op ≡ true) → Never (r ∷ rs) i k
never_here r rs i k none here zero op m at = here op m (same_Some r (records.Sub i k op m) at)
never_here r rs i k none here (suc b) op m at = none b op m at

asked_or_never : (r : Record) (rs : List Record) (i k : ℕ) → Never rs i k → Asked (r ∷ rs) i k ⊎ Never (r ∷ rs) i k
asked_or_never (records.Ans j l reply n) rs i k none = inr (never_here (records.Ans j l reply n) rs i k none (λ op m e. cc))
asked_or_never (records.Sub j l w n) rs i k none = elim (cases_Bool (is_posted w)) [
  | inl posted ↦ inr (never_here (records.Sub j l w n) rs i k none (λ op m e. let same : w ≡ op = cc in ap is_posted (sym same) ∙ posted))
  | inr asks ↦ elim (cases_eq j i) [
    | inr who ↦ inr (never_here (records.Sub j l w n) rs i k none (λ op m e. let same : j ≡ i = cc in absurd (who same)))
    | inl who ↦ elim (cases_eq l k) [
      | inr number ↦ inr (never_here (records.Sub j l w n) rs i k none (λ op m e. let same : l ≡ k = cc in absurd (number same)))
      | inl number ↦ inl (record { place = 0; op = w; n = n; at = rw (who, number) refl; not_posted = asks })
    ]
  ]
]

sought : (rs : List Record) (i k : ℕ) → Asked rs i k ⊎ Never rs i k
sought [] i k = inr (λ b op m at. cc)
sought (r ∷ rs) i k = elim (sought rs i k) [
  | inl f ↦ inl (record { place = suc f.place; op = f.op; n = f.n; at = f.at; not_posted = f.not_posted })
  | inr none ↦ asked_or_never r rs i k none
]

pub find_asked : (rs : List Record) (i k : ℕ) → (Never rs i k → ⊥) → Asked rs i k
find_asked rs i k some = elim (sought rs i k) [
  | inl f ↦ f
  | inr none ↦ absurd (some none)
]
