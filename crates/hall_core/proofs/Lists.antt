-- Lemmas on lists.
use Rattle.std.proofs.Common.{◌≡◌, ◌≢◌, ℕ, ne_eqb, eq-eqb, cond, subst, true, false, zero, suc, ◌<◌, ◌≤◌, ◌⊎◌, Bool, List, [], ◌∷◌, ◌++◌, map, length, sym, refl, ap, inl, inr, ⊎_elim, arith, Some}
use Rattle.std.specs.Prelude.{slice_get}
use mathlib.Core.Option.{some, some-injective, some-ne-none}
use lib.ListN.{get_elem?}
pub use Rattle.fabric_steps.specs.ListFacts.{count_nil}
use Rattle.hall_laws.specs.Standing.{one_if_same, total}

pub at_snoc : {A : Type 0} (l : List A) (a b : A) (j : ℕ) → get_elem? (l ++ a ∷ []) j ≡ some b → (get_elem? l j ≡ some b) ⊎ (a ≡ b)
at_snoc [] a b zero e = inr (some-injective a b e)
at_snoc [] a b (suc j) e = absurd (some-ne-none b (sym e))
at_snoc (x ∷ xs) a b zero e = inl e
at_snoc (x ∷ xs) a b (suc j) e = at_snoc xs a b j e

pub at_map : {A B : Type 0} (f : A → B) (l : List A) (i : ℕ) (a : A) → get_elem? l i ≡ some a → get_elem? (map f l) i ≡ some (f a)
at_map f [] i a e = absurd (some-ne-none a (sym e))
at_map f (x ∷ xs) zero a e = ap (λ y. some (f y)) (some-injective x a e)
at_map f (x ∷ xs) (suc i) a e = at_map f xs i a e

pub get_push : {X : Type 0} (xs : List X) (y : X) (n : ℕ) (x : X) → slice_get (xs ++ y ∷ []) n ≡ Some x → ((n < length xs) × (slice_get xs n ≡ Some x)) ⊎ ((n ≡ length xs) × (y ≡ x))
get_push [] y zero x e = inr (refl, cc)
get_push [] y (suc n) x e = absurd (cc)
get_push (z ∷ xs) y zero x e = inl (omega arith, e)
get_push (z ∷ xs) y (suc n) x e = ⊎_elim
    (λ (h : (n < length xs) × (slice_get xs n ≡ Some x)). let l : n < length xs = h.0 in inl (omega arith, h.1))
    (λ (h : (n ≡ length xs) × (y ≡ x)). inr (ap suc h.0, h.1))
    (get_push xs y n x e)

pub there : {X : Type 0} (l : List X) (k : ℕ) → k < length l → (a : X) × (get_elem? l k ≡ some a)
there [] k h = absurd (omega arith)
there (x ∷ xs) zero h = (x, refl)
there (x ∷ xs) (suc k) h = there xs k (omega arith)

pub at_length : {X : Type 0} (l : List X) (k : ℕ) (a : X) → get_elem? l k ≡ some a → k < length l
at_length [] k a e = absurd (some-ne-none a (sym e))
at_length (x ∷ xs) zero a e = omega arith
at_length (x ∷ xs) (suc k) a e = let h = at_length xs k a e in omega arith

pub get_within : {X : Type 0} (xs : List X) (i : ℕ) (x : X) → slice_get xs i ≡ Some x → i < length xs
get_within [] i x e = absurd (cc)
get_within (z ∷ xs) zero x e = omega arith
get_within (z ∷ xs) (suc i) x e = let h = get_within xs i x e in omega arith

pub has_at : {X : Type 0} (xs : List X) (i : ℕ) → i < length xs → (x : X) × (slice_get xs i ≡ Some x)
has_at [] i h = absurd (omega arith)
has_at (x ∷ xs) zero h = (x, refl)
has_at (x ∷ xs) (suc i) h = has_at xs i (omega arith)

pub one_is : (m n : ℕ) → m ≡ n → one_if_same m n ≡ 1
one_is m n e = let P : Bool → Type 0 = λ b. ◌≡◌ {A = ℕ} (cond b 1 0) 1 in let start : P true = refl in subst P (sym (eq-eqb m n e)) start

pub not_same : (m n : ℕ) → m ≢ n → one_if_same m n ≡ 0
not_same m n ne = let P : Bool → Type 0 = λ b. ◌≡◌ {A = ℕ} (cond b 1 0) 0 in let start : P false = refl in subst P (sym (ne_eqb m n ne)) start

-- one element weighs no more than the total
pub total_one : {X : Type 0} (f : X → ℕ) (xs : List X) (i : ℕ) (x : X) → get_elem? xs i ≡ some x → f x ≤ total f xs
total_one f [] i x e = absurd (some-ne-none x (sym e))
total_one f (a ∷ xs) zero x e = let s = ap f (some-injective a x e) in omega arith
total_one f (a ∷ xs) (suc i) x e = let h = total_one f xs i x e in omega arith

pub at_most_one : (m n : ℕ) → m ≤ n → n ≤ 1 → m ≤ 1
at_most_one m n a b = omega (arith, a, b)
