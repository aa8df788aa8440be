-- Counts and places.
use Rattle.std.proofs.Common.{◌≡◌, ℕ, zero, suc, ◌+◌, ◌<◌, ◌≤◌, Bool, true, false, List, [], ◌∷◌, take, refl, ap, ◌∙◌, subst, arith, inl, inr, ◌⊎◌, ⊎_elim, Some}
use Rattle.std.specs.Prelude.{slice_get}
use Rattle.fabric_steps.specs.Lists.{Each, Pairs, one_if, count}

test : (b : Bool) → (b ≡ true) ⊎ (b ≡ false)
test true = inl refl
test false = inr refl

-- the element at a place, beyond those before it
pub count_take_at : {X : Type 0} (p : X → Bool) (xs : List X) (n : ℕ) (x : X) → slice_get xs n ≡ Some x → p x ≡ true → count p (take n xs) + 1 ≤ count p xs
unfolding count
count_take_at p [] n x e h = absurd (cc)
count_take_at p (y ∷ xs) zero x e h = let s : p y ≡ true = (let s : y ≡ x = cc in ap p s ∙ h) in rw s (omega arith)
count_take_at p (y ∷ xs) (suc n) x e h = let r : count p (take n xs) + 1 ≤ count p xs = count_take_at p xs n x e h in omega arith

pub count_take_above : {X : Type 0} (p : X → Bool) (xs : List X) (n m : ℕ) (x : X) → slice_get xs n ≡ Some x → p x ≡ true → n < m → 1 ≤ count p (take m xs)
unfolding count
count_take_above p [] n m x e h l = absurd (cc)
count_take_above p (y ∷ xs) n zero x e h l = absurd (omega arith)
count_take_above p (y ∷ xs) zero (suc m) x e h l = let s : p y ≡ true = (let s : y ≡ x = cc in ap p s ∙ h) in rw s (omega arith)
count_take_above p (y ∷ xs) (suc n) (suc m) x e h l = let r : 1 ≤ count p (take m xs) = count_take_above p xs n m x e h (omega arith) in omega arith

pub found : {X : Type 0} (A P : X → Type 0) (p : X → Bool) (xs : List X) → 1 ≤ count p xs → Each A xs → Each P xs → (y : X) × A y × P y × (p y ≡ true)
unfolding count
found A P p [] h a b = absurd (omega arith)
found A P p (y ∷ xs) h a b = ⊎_elim
    (λ (t : p y ≡ true). (y, a.0, b.0, t))
    (λ (t : p y ≡ false). let k : one_if (p y) ≡ 0 = ap one_if t in found A P p xs (omega arith) a.1 b.1)
    (test (p y))

pub found_behind : {X : Type 0} (R : X → X → Type 0) (P : X → Type 0) (p : X → Bool) (xs : List X) (n : ℕ) (x : X) → Pairs R xs → Each P xs → slice_get xs n ≡ Some x → p x ≡ false → count p (take n xs) ≡ 0 → 1 ≤ count p xs → (y : X) × R x y × P y × (p y ≡ true)
unfolding count
found_behind R P p [] n x r a e f z h = absurd (cc)
found_behind R P p (y ∷ xs) zero x r a e f z h =
    let s : y ≡ x = cc in
    let k : one_if (p y) ≡ 0 = ap one_if (ap p s ∙ f) in
    found (R x) P p xs (omega arith) (subst (λ w. Each (R w) xs) s r.0) a.1
found_behind R P p (y ∷ xs) (suc n) x r a e f z h = found_behind R P p xs n x r.1 a.1 e f (omega arith) (omega arith)

pub found_at : {X : Type 0} (p : X → Bool) (xs : List X) → 1 ≤ count p xs → (n : ℕ) × (x : X) × (slice_get xs n ≡ Some x) × (p x ≡ true)
unfolding count
found_at p [] h = absurd (omega arith)
found_at p (y ∷ xs) h = ⊎_elim
    (λ (t : p y ≡ true). (0, y, refl, t))
    (λ (t : p y ≡ false). let k : one_if (p y) ≡ 0 = ap one_if t in let (n, x, e, q) = found_at p xs (omega arith) in (suc n, x, e, q))
    (test (p y))
