-- Lemmas on the facts of lists.
use Rattle.std.proofs.Common.{◌≡◌, ℕ, zero, suc, ◌+◌, ◌<◌, ◌≤◌, Bool, true, List, [], ◌∷◌, ◌++◌, length, take, map, refl, sym, ap, ◌∙◌, subst, arith, Some, append_assoc}
use Rattle.std.specs.Prelude.{slice_get}
use Rattle.fabric_steps.specs.Lists.{Each, Pairs, one_if, count}
pub use Rattle.fabric_steps.specs.ListFacts.{each_at, count_nil, get_before, get_seam}

pub each_append : {X : Type 0} (P : X → Type 0) (xs ys : List X) → Each P xs → Each P ys → Each P (xs ++ ys)
each_append P [] ys a b = b
each_append P (x ∷ xs) ys a b = (a.0, each_append P xs ys a.1 b)

pub each_split : {X : Type 0} (P : X → Type 0) (xs ys : List X) → Each P (xs ++ ys) → Each P xs × Each P ys
each_split P [] ys a = (tt, a)
each_split P (x ∷ xs) ys a = let r : Each P xs × Each P ys = each_split P xs ys a.1 in ((a.0, r.0), r.1)

pub each_weaken : {X : Type 0} (P Q : X → Type 0) (xs : List X) → ((x : X) → P x → Q x) → Each P xs → Each Q xs
each_weaken P Q [] f a = tt
each_weaken P Q (x ∷ xs) f a = (f x a.0, each_weaken P Q xs f a.1)

pub each_join : {X : Type 0} (P Q R : X → Type 0) (xs : List X) → ((x : X) → P x → Q x → R x) → Each P xs → Each Q xs → Each R xs
each_join P Q R [] f a b = tt
each_join P Q R (x ∷ xs) f a b = (f x a.0 b.0, each_join P Q R xs f a.1 b.1)

pub each_always : {X : Type 0} (P : X → Type 0) (xs : List X) → ((x : X) → P x) → Each P xs
each_always P [] f = tt
each_always P (x ∷ xs) f = (f x, each_always P xs f)

pub each_unmap : {X Y : Type 0} (P : Y → Type 0) (f : X → Y) (xs : List X) → Each P (map f xs) → Each (λ x. P (f x)) xs
each_unmap P f [] a = tt
each_unmap P f (x ∷ xs) a = (a.0, each_unmap P f xs a.1)

-- a new element x between two parts
pub each_insert : {X : Type 0} (P : X → Type 0) (xs ys : List X) (x : X) → Each P (xs ++ ys) → P x → Each P (xs ++ x ∷ ys)
each_insert P [] ys x a p = (p, a)
each_insert P (z ∷ xs) ys x a p = (a.0, each_insert P xs ys x a.1 p)

pub each_remove : {X : Type 0} (P : X → Type 0) (xs ys : List X) (x : X) → Each P (xs ++ x ∷ ys) → P x × Each P (xs ++ ys)
each_remove P [] ys x a = a
each_remove P (z ∷ xs) ys x a = let r : P x × Each P (xs ++ ys) = each_remove P xs ys x a.1 in (r.0, (a.0, r.1))

pub pairs_insert : {X : Type 0} (R : X → X → Type 0) (xs ys : List X) (x : X) → Pairs R (xs ++ ys) → Each (λ a. R a x) xs → Each (R x) ys → Pairs R (xs ++ x ∷ ys)
pairs_insert R [] ys x p a b = (b, p)
pairs_insert R (z ∷ xs) ys x p a b = (each_insert (R z) xs ys x p.0 a.0, pairs_insert R xs ys x p.1 a.1 b)

pub pairs_remove : {X : Type 0} (R : X → X → Type 0) (xs ys : List X) (x : X) → Pairs R (xs ++ x ∷ ys) → Pairs R (xs ++ ys) × (Each (λ a. R a x) xs) × Each (R x) ys
pairs_remove R [] ys x p = (p.1, tt, p.0)
pairs_remove R (z ∷ xs) ys x p =
    let r : Pairs R (xs ++ ys) × (Each (λ a. R a x) xs) × Each (R x) ys = pairs_remove R xs ys x p.1 in
    let s : R z x × Each (R z) (xs ++ ys) = each_remove (R z) xs ys x p.0 in
    ((s.1, r.0), (s.0, r.1), r.2)

-- x overtakes the middle
pub pairs_overtake : {X : Type 0} (R : X → X → Type 0) (xs ys zs : List X) (x : X) → Each (R x) ys → Pairs R (xs ++ (ys ++ x ∷ zs)) → Pairs R (xs ++ x ∷ (ys ++ zs))
pairs_overtake R xs ys zs x over p =
    let same : xs ++ (ys ++ x ∷ zs) ≡ (xs ++ ys) ++ x ∷ zs = sym (append_assoc xs ys (x ∷ zs)) in
    let r : Pairs R ((xs ++ ys) ++ zs) × (Each (λ a. R a x) (xs ++ ys)) × Each (R x) zs = pairs_remove R (xs ++ ys) zs x (subst (Pairs R) same p) in
    pairs_insert R xs (ys ++ zs) x (subst (Pairs R) (append_assoc xs ys zs) r.0) (each_split (λ a. R a x) xs ys r.1).0 (each_append (R x) ys zs over r.2)

pub count_append : {X : Type 0} (p : X → Bool) (xs ys : List X) → count p (xs ++ ys) ≡ count p xs + count p ys
unfolding count
count_append p [] ys = omega arith
count_append p (x ∷ xs) ys = let r : count p (xs ++ ys) ≡ count p xs + count p ys = count_append p xs ys in omega arith

pub count_cons : {X : Type 0} (p : X → Bool) (x : X) (xs : List X) → count p (x ∷ xs) ≡ one_if (p x) + count p xs
unfolding count
count_cons p x xs = refl

pub count_one : {X : Type 0} (p : X → Bool) (x : X) → count p (x ∷ []) ≡ one_if (p x)
unfolding count
count_one p x = omega arith

pub count_insert : {X : Type 0} (p : X → Bool) (xs ys : List X) (x : X) → count p (xs ++ x ∷ ys) ≡ one_if (p x) + count p (xs ++ ys)
unfolding count
count_insert p [] ys x = refl
count_insert p (z ∷ xs) ys x = let r : count p (xs ++ x ∷ ys) ≡ one_if (p x) + count p (xs ++ ys) = count_insert p xs ys x in omega arith

-- an element that passes is counted
pub count_at : {X : Type 0} (p : X → Bool) (xs : List X) (n : ℕ) (x : X) → slice_get xs n ≡ Some x → p x ≡ true → 1 ≤ count p xs
unfolding count
count_at p [] n x e h = absurd (cc)
count_at p (y ∷ xs) zero x e h = let same : p y ≡ true = (let s : y ≡ x = cc in ap p s ∙ h) in rw same (omega arith)
count_at p (y ∷ xs) (suc n) x e h = let r : 1 ≤ count p xs = count_at p xs n x e h in omega arith

-- what holds of whatever is counted holds of each
pub each_counted : {X : Type 0} (P : X → Type 0) (q : X → X → Bool) (xs : List X) → ((x : X) → q x x ≡ true) → ((x : X) → 1 ≤ count (q x) xs → P x) → Each P xs
unfolding count
each_counted P q [] self f = tt
each_counted P q (y ∷ ys) self f = (f y (rw (self y) (omega arith)), each_counted P q ys self (λ x h. f x (omega arith)))

pub pairs_push : {X : Type 0} (R : X → X → Type 0) (xs : List X) (x : X) → Pairs R xs → Each (λ a. R a x) xs → Pairs R (xs ++ x ∷ [])
pairs_push R [] x p a = (tt, tt)
pairs_push R (z ∷ xs) x p a = (each_append (R z) xs (x ∷ []) p.0 (a.0, tt), pairs_push R xs x p.1 a.1)

pub each_overtake : {X : Type 0} (P : X → Type 0) (xs ys zs : List X) (x : X) → Each P (xs ++ (ys ++ x ∷ zs)) → Each P (xs ++ x ∷ (ys ++ zs))
each_overtake P xs ys zs x a =
    let r : Each P xs × Each P (ys ++ x ∷ zs) = each_split P xs (ys ++ x ∷ zs) a in
    each_append P xs (x ∷ (ys ++ zs)) r.0 (each_remove P ys zs x r.1)

pub count_map_insert : {X Y : Type 0} (p : Y → Bool) (f : X → Y) (xs ys : List X) (x : X) → count p (map f (xs ++ x ∷ ys)) ≡ one_if (p (f x)) + count p (map f (xs ++ ys))
unfolding count
count_map_insert p f [] ys x = refl
count_map_insert p f (z ∷ xs) ys x = let r : count p (map f (xs ++ x ∷ ys)) ≡ one_if (p (f x)) + count p (map f (xs ++ ys)) = count_map_insert p f xs ys x in omega arith

pub count_push : {X : Type 0} (p : X → Bool) (xs : List X) (x : X) → count p (xs ++ x ∷ []) ≡ count p xs + one_if (p x)
unfolding count
count_push p [] x = omega arith
count_push p (z ∷ xs) x = let r : count p (xs ++ x ∷ []) ≡ count p xs + one_if (p x) = count_push p xs x in omega arith

pub count_map_push : {X Y : Type 0} (p : Y → Bool) (f : X → Y) (xs : List X) (x : X) → count p (map f (xs ++ x ∷ [])) ≡ count p (map f xs) + one_if (p (f x))
unfolding count
count_map_push p f [] x = omega arith
count_map_push p f (z ∷ xs) x = let r : count p (map f (xs ++ x ∷ [])) ≡ count p (map f xs) + one_if (p (f x)) = count_map_push p f xs x in omega arith

pub take_before : {X : Type 0} (xs ys : List X) (n : ℕ) → n ≤ length xs → take n (xs ++ ys) ≡ take n xs
take_before xs ys zero h = refl
take_before [] ys (suc n) h = absurd (omega arith)
take_before (z ∷ xs) ys (suc n) h = ap (λ l. z ∷ l) (take_before xs ys n (omega arith))

pub take_all : {X : Type 0} (xs : List X) → take (length xs) xs ≡ xs
take_all [] = refl
take_all (z ∷ xs) = ap (λ l. z ∷ l) (take_all xs)

pub get_within : {X : Type 0} (xs : List X) (n : ℕ) (x : X) → slice_get xs n ≡ Some x → n < length xs
get_within [] n x e = absurd (cc)
get_within (z ∷ xs) zero x e = omega arith
get_within (z ∷ xs) (suc n) x e = let r : n < length xs = get_within xs n x e in omega arith
