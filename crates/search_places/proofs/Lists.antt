-- Lists: an element at a place, after a write.
use Rattle.std.proofs.Common.{◌≡◌, ◌∙◌, ℕ, zero, suc, ◌+◌, ◌-◌, ◌<◌, ◌≤◌, Bool, true, false, List, [], ◌∷◌, ◌++◌, length, take, drop, Some, refl, sym, ap, arith}
use Rattle.std.specs.Prelude.{slice_get, slice_set, replicate}
use Rattle.std.proofs.lemmas.List.{take-append-drop, drop-drop, replicate-append-replicate}
use Rattle.std.proofs.lemmas.Option.{same_Some}

pub clash : {b : Bool} → b ≡ true → b ≡ false → ⊥
clash t f = let e : true ≡ false = sym t ∙ f in cc

-- a write is written over
pub set_back : {X : Type 0} → (xs : List X) (i : ℕ) (v w : X) → slice_get xs i ≡ Some w → slice_set (slice_set xs i v) i w ≡ xs
set_back [] i v w e = cc
set_back (x ∷ xs) zero v w e = ap (λ y. y ∷ xs) (sym (same_Some x w e))
set_back (x ∷ xs) (suc i) v w e = ap (λ ys. x ∷ ys) (set_back xs i v w e)

pub get_replicate : {X : Type 0} → (n i : ℕ) (v : X) → i < n → slice_get (replicate n v) i ≡ Some v
get_replicate zero i v l = absurd (omega arith)
get_replicate (suc n) zero v l = refl
get_replicate (suc n) (suc i) v l = get_replicate n i v (omega arith)

pub length_replicate : {X : Type 0} → (n : ℕ) (v : X) → length (replicate n v) ≡ n
length_replicate zero v = refl
length_replicate (suc n) v = ap suc (length_replicate n v)

-- lists with the same elements
pub same_list : {X : Type 0} → (xs ys : List X) → length xs ≡ length ys → ((i : ℕ) → i < length xs → slice_get xs i ≡ slice_get ys i) → xs ≡ ys
same_list [] [] n h = refl
same_list [] (y ∷ ys) n h = cc
same_list (x ∷ xs) [] n h = cc
same_list (x ∷ xs) (y ∷ ys) n h =
    let first : x ≡ y = same_Some x y (h 0 (omega arith)) in
    let rest : xs ≡ ys = same_list xs ys (omega (arith, n)) (λ i l. h (suc i) (omega arith)) in
    rw (first, rest) refl

-- a block of zeros before others
pub more_zeros : (xs : List ℕ) (end n r : ℕ) → n ≤ end → take (end - (end - n)) (drop (end - n) xs) ≡ replicate n 0 → drop end xs ≡ replicate r 0 → drop (end - n) xs ≡ replicate (n + r) 0
more_zeros xs end n r few block rest =
    let k = end - n in
    let there : k + (end - k) ≡ end = omega (arith, few) in
    sym (take-append-drop (end - k) (drop k xs)) ∙ ap (λ ys. ys ++ drop (end - k) (drop k xs)) block
    ∙ ap (λ ys. replicate n 0 ++ ys) (drop-drop (end - k) k xs ∙ ap (λ i. drop i xs) there ∙ rest) ∙ replicate-append-replicate n r 0
