-- Whether one of the elements from a place on passes.
use Rattle.std.proofs.Common.{◌≡◌, ◌∙◌, ℕ, zero, suc, ◌+◌, ◌<◌, ◌≤◌, Bool, true, false, List, [], ◌∷◌, length, drop, Option, Some, None, refl, sym, ap, add-one, arith}
use Rattle.std.specs.Prelude.{slice_get, ◌||◌}
use Rattle.std.specs.List.{list_any}
use Rattle.std.proofs.lemmas.Option.{same_Some}
use Rattle.history_words.specs.Flaws.{at_place, some_and}

there : {X : Type 0} (xs : List X) (n : ℕ) → n < length xs → (x : X) × (slice_get xs n ≡ Some x)
there [] n l = absurd (omega (arith, l))
there (x ∷ xs) zero l = (x, refl)
there (x ∷ xs) (suc n) l = there xs n (omega (arith, l))

opened_at : {X : Type 0} (xs : List X) (n : ℕ) (x : X) → slice_get xs n ≡ Some x → drop n xs ≡ x ∷ drop (suc n) xs
opened_at [] n x e = cc
opened_at (y ∷ ys) zero x e = ap (λ z. z ∷ ys) (same_Some y x e)
opened_at (y ∷ ys) (suc n) x e = opened_at ys n x e

opened : {X : Type 0} (xs : List X) (n : ℕ) (x : X) → slice_get xs n ≡ Some x → drop n xs ≡ x ∷ drop (n + 1) xs
opened xs n x e = opened_at xs n x e ∙ ap (λ m. x ∷ drop m xs) (sym (add-one n))

passes : {X : Type 0} (t : X → Bool) (xs : List X) (n : ℕ) (x : X) (b : Bool) → slice_get xs n ≡ Some x → at_place t xs n ≡ b → t x ≡ b
passes {X = X} t xs n x b at is = sym (ap (λ (o : Option X). some_and o t) at) ∙ is

first_fails : (a b : Bool) → a ≡ false → (a || b) ≡ b
first_fails true b e = cc
first_fails false b e = refl

first_passes : (a b : Bool) → a ≡ true → (a || b) ≡ true
first_passes true b e = refl
first_passes false b e = cc

-- the element at the place doesn't pass
pub any-next : {X : Type 0} (t : X → Bool) (xs : List X) (n : ℕ) → n < length xs → at_place t xs n ≡ false → list_any t (drop n xs) ≡ list_any t (drop (n + 1) xs)
any-next {X = X} t xs n l other =
    let found : (x : X) × (slice_get xs n ≡ Some x) = there xs n l in
    ap (list_any t) (opened xs n found.0 found.1) ∙ first_fails (t found.0) (list_any t (drop (n + 1) xs)) (passes t xs n found.0 false found.1 other)

-- it passes
pub any-here : {X : Type 0} (t : X → Bool) (xs : List X) (n : ℕ) → n < length xs → at_place t xs n ≡ true → list_any t (drop n xs) ≡ true
any-here {X = X} t xs n l passed =
    let found : (x : X) × (slice_get xs n ≡ Some x) = there xs n l in
    ap (list_any t) (opened xs n found.0 found.1) ∙ first_passes (t found.0) (list_any t (drop (n + 1) xs)) (passes t xs n found.0 true found.1 passed)

past : {X : Type 0} (xs : List X) (n : ℕ) → length xs ≤ n → drop n xs ≡ []
past [] zero le = refl
past [] (suc n) le = refl
past (x ∷ xs) zero le = absurd (omega (arith, le))
past (x ∷ xs) (suc n) le = past xs n (omega (arith, le))

-- there is none behind the last
pub any-past : {X : Type 0} (t : X → Bool) (xs : List X) (n : ℕ) → length xs ≤ n → list_any t (drop n xs) ≡ false
any-past t xs n le = ap (list_any t) (past xs n le)
