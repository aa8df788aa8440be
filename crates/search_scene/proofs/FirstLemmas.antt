-- The first elements of a list, one more at a time.
use Rattle.std.proofs.Common.{◌≡◌, ◌∙◌, ℕ, zero, suc, ◌+◌, ◌<◌, ◌≤◌, List, [], ◌∷◌, ◌++◌, take, length, None, Some, ap, add-one, arith}
use Rattle.std.specs.Prelude.{slice_get}
use Rattle.std.proofs.lemmas.Option.{same_Some}

with_next : {X : Type 0} → (xs : List X) (i : ℕ) (x : X) → slice_get xs i ≡ Some x → take (suc i) xs ≡ take i xs ++ x ∷ []
with_next [] i x at = cc
with_next (y ∷ ys) zero x at = ap (λ z. z ∷ []) (same_Some y x at)
with_next (y ∷ ys) (suc i) x at = ap (λ zs. y ∷ zs) (with_next ys i x at)

-- one more is the element behind them
pub one_more : {X : Type 0} → (xs : List X) (i : ℕ) (x : X) → slice_get xs i ≡ Some x → take (i + 1) xs ≡ take i xs ++ x ∷ []
one_more xs i x at = ap (λ n. take n xs) (add-one i) ∙ with_next xs i x at

inside : {X : Type 0} → (xs : List X) (i : ℕ) → i < length xs → slice_get xs i ≡ None → ⊥
inside [] i l e = omega arith
inside (x ∷ xs) zero l e = cc
inside (x ∷ xs) (suc i) l e = inside xs i (omega arith) e

-- there is one inside of the list
pub one_inside : {X : Type 0} → (xs : List X) (i n : ℕ) → i < n → n ≤ length xs → slice_get xs i ≡ None → ⊥
one_inside xs i n l few none = inside xs i (omega (arith, l, few)) none
