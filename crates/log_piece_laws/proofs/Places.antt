-- Lists that grow at their end.
use Rattle.std.proofs.Common.{◌≡◌, ◌∙◌, ℕ, zero, suc, ◌<◌, ◌≤◌, Bool, true, false, List, [], ◌∷◌, ◌++◌, length, take, refl, ap, arith, inl, inr, ◌⊎◌, ⊎_elim, Some}
use Rattle.std.specs.Prelude.{slice_get, ◌||◌}
use Rattle.std.specs.List.{list_any}
use Rattle.std.proofs.lemmas.Option.{same_Some}

pub get_before : {X : Type 0} (xs ys : List X) (n : ℕ) (x : X) → slice_get xs n ≡ Some x → slice_get (xs ++ ys) n ≡ Some x
get_before [] ys n x e = absurd (cc)
get_before (z ∷ xs) ys zero x e = e
get_before (z ∷ xs) ys (suc n) x e = get_before xs ys n x e

pub get_seam : {X : Type 0} (xs ys : List X) (x : X) → slice_get (xs ++ x ∷ ys) (length xs) ≡ Some x
get_seam [] ys x = refl
get_seam (z ∷ xs) ys x = get_seam xs ys x

pub get_within : {X : Type 0} (xs : List X) (n : ℕ) (x : X) → slice_get xs n ≡ Some x → n < length xs
get_within [] n x e = absurd (cc)
get_within (z ∷ xs) zero x e = omega arith
get_within (z ∷ xs) (suc n) x e = let r : n < length xs = get_within xs n x e in omega arith

pub get_back : {X : Type 0} (xs ys : List X) (n : ℕ) (x : X) → n < length xs → slice_get (xs ++ ys) n ≡ Some x → slice_get xs n ≡ Some x
get_back [] ys n x l e = absurd (omega arith)
get_back (z ∷ xs) ys zero x l e = e
get_back (z ∷ xs) ys (suc n) x l e = get_back xs ys n x (omega arith) e

pub get_push : {X : Type 0} (xs : List X) (y : X) (n : ℕ) (x : X) → slice_get (xs ++ y ∷ []) n ≡ Some x → ((n < length xs) × (slice_get xs n ≡ Some x)) ⊎ ((n ≡ length xs) × (y ≡ x))
get_push [] y zero x e = inr (refl, cc)
get_push [] y (suc n) x e = absurd (cc)
get_push (z ∷ xs) y zero x e = inl (omega arith, e)
get_push (z ∷ xs) y (suc n) x e = ⊎_elim
    (λ (h : (n < length xs) × (slice_get xs n ≡ Some x)). let l : n < length xs = h.0 in inl (omega arith, h.1))
    (λ (h : (n ≡ length xs) × (y ≡ x)). inr (ap suc h.0, h.1))
    (get_push xs y n x e)

pub take_before : {X : Type 0} (xs ys : List X) (n : ℕ) → n ≤ length xs → take n (xs ++ ys) ≡ take n xs
take_before xs ys zero h = refl
take_before [] ys (suc n) h = absurd (omega arith)
take_before (z ∷ xs) ys (suc n) h = ap (λ l. z ∷ l) (take_before xs ys n (omega arith))

pub take_all : {X : Type 0} (xs : List X) → take (length xs) xs ≡ xs
take_all [] = refl
take_all (z ∷ xs) = ap (λ l. z ∷ l) (take_all xs)

pub take_push : {X : Type 0} (xs : List X) (y : X) (n : ℕ) → n ≡ length xs → take n (xs ++ y ∷ []) ≡ xs
take_push xs y n e = ap (λ (m : ℕ). take m (xs ++ y ∷ [])) e ∙ (take_before xs (y ∷ []) (length xs) (omega arith) ∙ take_all xs)

-- ---- whether one passes

either : (a b : Bool) → b ≡ true → (a || b) ≡ true
either true b e = refl
either false b e = e

none_of : (a b : Bool) → (a || b) ≡ false → (a ≡ false) × (b ≡ false)
none_of true b e = absurd (cc)
none_of false b e = (refl, e)

pub in_take : {X : Type 0} (t : X → Bool) (xs : List X) (n p : ℕ) (x : X) → p < n → slice_get xs p ≡ Some x → t x ≡ true → list_any t (take n xs) ≡ true
in_take t [] n p x l at is = absurd (cc)
in_take t (z ∷ xs) zero p x l at is = absurd (omega arith)
in_take t (z ∷ xs) (suc n) zero x l at is = rw (ap t (same_Some z x at) ∙ is) refl
in_take t (z ∷ xs) (suc n) (suc p) x l at is = either (t z) (list_any t (take n xs)) (in_take t xs n p x (omega arith) at is)

pub in_list : {X : Type 0} (t : X → Bool) (xs : List X) (p : ℕ) (x : X) → slice_get xs p ≡ Some x → t x ≡ true → list_any t xs ≡ true
in_list t [] p x at is = absurd (cc)
in_list t (z ∷ xs) zero x at is = rw (ap t (same_Some z x at) ∙ is) refl
in_list t (z ∷ xs) (suc p) x at is = either (t z) (list_any t xs) (in_list t xs p x at is)

-- one passes at a place
found_by : {X : Type 0} (t : X → Bool) (z : X) (xs : List X) (b : Bool) → t z ≡ b → (list_any t xs ≡ true → (p : ℕ) × (x : X) × (slice_get xs p ≡ Some x) × (t x ≡ true)) → (b || list_any t xs) ≡ true
    → (p : ℕ) × (x : X) × (slice_get (z ∷ xs) p ≡ Some x) × (t x ≡ true)
found_by t z xs true is f e = (0, z, refl, is)
found_by t z xs false is f e = let r = f e in (suc r.0, r.1, r.2, r.3)

pub found : {X : Type 0} (t : X → Bool) (xs : List X) → list_any t xs ≡ true → (p : ℕ) × (x : X) × (slice_get xs p ≡ Some x) × (t x ≡ true)
found t [] e = absurd (cc)
found t (z ∷ xs) e = found_by t z xs (t z) refl (λ h. found t xs h) e

pub any_append : {X : Type 0} (t : X → Bool) (xs ys : List X) → list_any t xs ≡ true → list_any t (xs ++ ys) ≡ true
any_append t xs ys e = let r = found t xs e in in_list t (xs ++ ys) r.0 r.1 (get_before xs ys r.0 r.1 r.2) r.3

pub none_push : {X : Type 0} (t : X → Bool) (xs : List X) (y : X) → list_any t xs ≡ false → t y ≡ false → list_any t (xs ++ y ∷ []) ≡ false
none_push t [] y e n = rw n refl
none_push t (z ∷ xs) y e n = let h = none_of (t z) (list_any t xs) e in rw h.0 (none_push t xs y h.1 n)

pub any_push : {X : Type 0} (t : X → Bool) (xs : List X) (y : X) → t y ≡ true → list_any t (xs ++ y ∷ []) ≡ true
any_push t xs y is = in_list t (xs ++ y ∷ []) (length xs) y (get_seam xs [] y) is

pub test : (b : Bool) → (b ≡ true) ⊎ (b ≡ false)
test true = inl refl
test false = inr refl
