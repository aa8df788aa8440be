-- A list of which the first items are changed.
use Rattle.std.proofs.Common.{◌≡◌, ◌∙◌, ◌+◌, ◌<◌, ◌≤◌, ◌++◌, List, ℕ, [], ◌∷◌, zero, suc, ap, sym, refl, map, take, drop, set, length, get_or, arith}
use Rattle.std.proofs.lemmas.List.{get_or_default}

-- the item that is changed next
pub mixed_at : {X : Type 0} (f : X → X) (xs : List X) (i : ℕ) (d : X) → i < length xs → get_or (map f (take i xs) ++ drop i xs) i d ≡ get_or xs i d
mixed_at f [] i d lt = absurd (omega (arith, lt))
mixed_at f (x ∷ xs) zero d lt = refl
mixed_at f (x ∷ xs) (suc i) d lt = mixed_at f xs i d (omega (arith, lt))

mixed_set : {X : Type 0} (f : X → X) (xs : List X) (i : ℕ) (y : X) → i < length xs → y ≡ f (get_or xs i y) → set (map f (take i xs) ++ drop i xs) i y ≡ map f (take (suc i) xs) ++ drop (suc i) xs
mixed_set f [] i y lt is = absurd (omega (arith, lt))
mixed_set f (x ∷ xs) zero y lt is = ap (λ z. z ∷ xs) is
mixed_set f (x ∷ xs) (suc i) y lt is = ap (λ zs. f x ∷ zs) (mixed_set f xs i y (omega (arith, lt)) is)

pub mixed_next : {X : Type 0} (f : X → X) (xs now : List X) (i : ℕ) (x y : X) → i < length xs → now ≡ map f (take i xs) ++ drop i xs → x ≡ get_or now i x → y ≡ f x
    → set now i y ≡ map f (take (i + 1) xs) ++ drop (i + 1) xs
mixed_next f xs now i x y lt is at new =
    let next : i + 1 ≡ suc i = omega arith in
    let item : x ≡ get_or xs i x = at ∙ ap (λ zs. get_or zs i x) is ∙ mixed_at f xs i x lt in
    rw next (ap (λ zs. set zs i y) is ∙ mixed_set f xs i y lt (new ∙ ap f (item ∙ get_or_default xs i x y lt)))

pub mixed_none : {X : Type 0} (f : X → X) (xs : List X) → xs ≡ map f (take zero xs) ++ drop zero xs
mixed_none f xs = refl

pub mixed_all : {X : Type 0} (f : X → X) (xs now : List X) (i : ℕ) → length xs ≤ i → now ≡ map f (take i xs) ++ drop i xs → now ≡ map f xs
mixed_all f xs now i le is = is ∙ whole f xs i le
  where
    whole : {X : Type 0} (f : X → X) (xs : List X) (i : ℕ) → length xs ≤ i → map f (take i xs) ++ drop i xs ≡ map f xs
    whole f [] zero le = refl
    whole f [] (suc i) le = refl
    whole f (x ∷ xs) zero le = absurd (omega arith)
    whole f (x ∷ xs) (suc i) le = ap (λ zs. f x ∷ zs) (whole f xs i (omega arith))
