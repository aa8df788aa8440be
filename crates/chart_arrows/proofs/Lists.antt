-- Lists that agree, place by place.
use Rattle.std.proofs.Common.{◌≡◌, ℕ, zero, suc, List, [], ◌∷◌, ◌++◌, length, take, drop, map, refl, ap, subst, Option, Some, None}
use Rattle.std.specs.Prelude.{slice_get, remove}
use Rattle.chart_arrows.specs.Accounts.{AreSo}

pub length_so : {X Y : Type 0} (so : X → Y → Type 0) (xs : List X) (ys : List Y) → AreSo so xs ys → length ys ≡ length xs
length_so so [] [] a = refl
length_so so [] (y ∷ ys) a = absurd a
length_so so (x ∷ xs) [] a = absurd a
length_so so (x ∷ xs) (y ∷ ys) a = ap suc (length_so so xs ys a.1)

pub append_so : {X Y : Type 0} (so : X → Y → Type 0) (xs us : List X) (ys vs : List Y) → AreSo so xs ys → AreSo so us vs → AreSo so (xs ++ us) (ys ++ vs)
append_so so [] us [] vs a b = b
append_so so [] us (y ∷ ys) vs a b = absurd a
append_so so (x ∷ xs) us [] vs a b = absurd a
append_so so (x ∷ xs) us (y ∷ ys) vs a b = (a.0, append_so so xs us ys vs a.1 b)

pub one_more_so : {X Y : Type 0} (so : X → Y → Type 0) (xs : List X) (x : X) (ys : List Y) (y : Y) → AreSo so xs ys → so x y → AreSo so (xs ++ x ∷ []) (ys ++ y ∷ [])
one_more_so so xs x ys y a b = append_so so xs (x ∷ []) ys (y ∷ []) a (b, tt)

pub drop_so : {X Y : Type 0} (so : X → Y → Type 0) (n : ℕ) (xs : List X) (ys : List Y) → AreSo so xs ys → AreSo so (drop n xs) (drop n ys)
drop_so so zero xs ys a = a
drop_so so (suc n) [] [] a = a
drop_so so (suc n) [] (y ∷ ys) a = absurd a
drop_so so (suc n) (x ∷ xs) [] a = absurd a
drop_so so (suc n) (x ∷ xs) (y ∷ ys) a = drop_so so n xs ys a.1

take_so : {X Y : Type 0} (so : X → Y → Type 0) (n : ℕ) (xs : List X) (ys : List Y) → AreSo so xs ys → AreSo so (take n xs) (take n ys)
take_so so zero xs ys a = tt
take_so so (suc n) [] [] a = a
take_so so (suc n) [] (y ∷ ys) a = absurd a
take_so so (suc n) (x ∷ xs) [] a = absurd a
take_so so (suc n) (x ∷ xs) (y ∷ ys) a = (a.0, take_so so n xs ys a.1)

pub remove_so : {X Y : Type 0} (so : X → Y → Type 0) (n : ℕ) (xs : List X) (ys : List Y) → AreSo so xs ys → AreSo so (remove xs n) (remove ys n)
remove_so so n xs ys a = append_so so (take n xs) (drop (suc n) xs) (take n ys) (drop (suc n) ys) (take_so so n xs ys a) (drop_so so (suc n) xs ys a)

pub record HasSo {X Y : Type 0} (so : X → Y → Type 0) (x : X) (ys : List Y) (place : ℕ) : Type 0 where
  pub y : Y
  pub there : slice_get ys place ≡ Some y
  pub is : so x y

abbrev or_else : {X : Type 0} → X → Option X → X
or_else d (Some x) = x
or_else d None = d

pub at_so : {X Y : Type 0} (so : X → Y → Type 0) (xs : List X) (ys : List Y) (place : ℕ) (x : X) → AreSo so xs ys → slice_get xs place ≡ Some x → HasSo so x ys place
at_so so [] ys place x a e = absurd cc
at_so so (z ∷ xs) [] place x a e = absurd a
at_so so (z ∷ xs) (y ∷ ys) zero x a e = record { y = y; there = refl; is = subst (λ w. so w y) (ap (or_else z) e) a.0 }
at_so so (z ∷ xs) (y ∷ ys) (suc place) x a e =
    let h : HasSo so x ys place = at_so so xs ys place x a.1 e in
    record { y = h.y; there = h.there; is = h.is }

pub other_so : {X Y : Type 0} (so also : X → Y → Type 0) (xs : List X) (ys : List Y) → ((x : X) (y : Y) → so x y → also x y) → AreSo so xs ys → AreSo also xs ys
other_so so also [] [] all a = tt
other_so so also [] (y ∷ ys) all a = absurd a
other_so so also (x ∷ xs) [] all a = absurd a
other_so so also (x ∷ xs) (y ∷ ys) all a = (all x y a.0, other_so so also xs ys all a.1)

pub get_before : {X : Type 0} (xs ys : List X) (place : ℕ) (x : X) → slice_get xs place ≡ Some x → slice_get (xs ++ ys) place ≡ Some x
get_before [] ys place x e = absurd cc
get_before (z ∷ xs) ys zero x e = e
get_before (z ∷ xs) ys (suc place) x e = get_before xs ys place x e

pub get_last : {X : Type 0} (xs : List X) (x : X) → slice_get (xs ++ x ∷ []) (length xs) ≡ Some x
get_last [] x = refl
get_last (y ∷ xs) x = get_last xs x

pub map_more : {X Y : Type 0} (f : X → Y) (xs : List X) (x : X) → map f (xs ++ x ∷ []) ≡ map f xs ++ f x ∷ []
map_more f [] x = refl
map_more f (y ∷ xs) x = ap (λ t. f y ∷ t) (map_more f xs x)

pub map_rest : {X Y : Type 0} (f : X → Y) (xs : List X) (y : Y) (ys : List Y) → map f xs ≡ y ∷ ys → map f (drop 1 xs) ≡ ys
map_rest f [] y ys e = absurd cc
map_rest f (x ∷ xs) y ys e = ap (λ t. drop 1 t) e
