-- Lists: an element at a place, after a write, in a prefix.
use Rattle.std.proofs.Common.{◌≡◌, ◌∙◌, ℕ, zero, suc, ◌+◌, ◌<◌, ◌≤◌, Bool, true, false, List, [], ◌∷◌, ◌++◌, take, length, Some, refl, sym, ap, arith, add-one}
use Rattle.std.specs.Prelude.{slice_get, slice_set, replicate}
use Rattle.std.proofs.lemmas.Option.{same_Some}

pub clash : {b : Bool} → b ≡ true → b ≡ false → ⊥
clash t f = let e : true ≡ false = sym t ∙ f in cc

pub set_here : {X : Type 0} → (xs : List X) (i : ℕ) (v w : X) → slice_get xs i ≡ Some w → slice_get (slice_set xs i v) i ≡ Some v
set_here [] i v w e = cc
set_here (x ∷ xs) zero v w e = refl
set_here (x ∷ xs) (suc i) v w e = set_here xs i v w e

pub set_there : {X : Type 0} → (xs : List X) (i j : ℕ) (v : X) → (i ≡ j → ⊥) → slice_get (slice_set xs i v) j ≡ slice_get xs j
set_there [] i j v n = refl
set_there (x ∷ xs) zero zero v n = absurd (n refl)
set_there (x ∷ xs) zero (suc j) v n = refl
set_there (x ∷ xs) (suc i) zero v n = refl
set_there (x ∷ xs) (suc i) (suc j) v n = set_there xs i j v (λ e. n (ap suc e))

pub get_replicate : {X : Type 0} → (n i : ℕ) (v : X) → i < n → slice_get (replicate n v) i ≡ Some v
get_replicate zero i v l = absurd (omega arith)
get_replicate (suc n) zero v l = refl
get_replicate (suc n) (suc i) v l = get_replicate n i v (omega arith)

pub take_more_at : {X : Type 0} → (xs : List X) (p : ℕ) (x : X) → slice_get xs p ≡ Some x → take (p + 1) xs ≡ take p xs ++ x ∷ []
take_more_at [] p x e = cc
take_more_at (y ∷ ys) zero x e = ap (λ v. v ∷ []) (same_Some y x e)
take_more_at (y ∷ ys) (suc p) x e = let i : take (suc p) ys ≡ take p ys ++ x ∷ [] = rw add-one at (take_more_at ys p x e) in rw add-one (ap (λ zs. y ∷ zs) i)

-- an element of a prefix is one of the list
pub from_take : {X : Type 0} → (xs : List X) (n p : ℕ) (x : X) → slice_get (take n xs) p ≡ Some x → (slice_get xs p ≡ Some x) × (p < n)
from_take [] zero p x e = cc
from_take [] (suc n) p x e = cc
from_take (y ∷ ys) zero p x e = cc
from_take (y ∷ ys) (suc n) zero x e = (e, omega arith)
from_take (y ∷ ys) (suc n) (suc p) x e = let (at, l) = from_take ys n p x e in (at, omega arith)

pub to_take : {X : Type 0} → (xs : List X) (n p : ℕ) (x : X) → p < n → slice_get xs p ≡ Some x → slice_get (take n xs) p ≡ Some x
to_take [] n p x l e = cc
to_take (y ∷ ys) zero p x l e = absurd (omega arith)
to_take (y ∷ ys) (suc n) zero x l e = e
to_take (y ∷ ys) (suc n) (suc p) x l e = to_take ys n p x (omega arith) e

-- a shorter prefix of a prefix
pub take_of_take : {X : Type 0} → (xs : List X) (n m : ℕ) → n ≤ m → take n (take m xs) ≡ take n xs
take_of_take [] zero zero l = refl
take_of_take [] zero (suc m) l = refl
take_of_take [] (suc n) zero l = refl
take_of_take [] (suc n) (suc m) l = refl
take_of_take (x ∷ xs) zero zero l = refl
take_of_take (x ∷ xs) zero (suc m) l = refl
take_of_take (x ∷ xs) (suc n) zero l = absurd (omega arith)
take_of_take (x ∷ xs) (suc n) (suc m) l = ap (λ ys. x ∷ ys) (take_of_take xs n m (omega arith))

-- the element at a place below the length
pub some_at : {X : Type 0} → (xs : List X) (i : ℕ) → i < length xs → (x : X) × (slice_get xs i ≡ Some x)
some_at [] i l = absurd (omega arith)
some_at (x ∷ xs) zero l = (x, refl)
some_at (x ∷ xs) (suc i) l = some_at xs i (omega arith)
