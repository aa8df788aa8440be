-- Lists that are made of chunks: where an element of one stands in the whole, and back.
use Rattle.std.proofs.Common.{◌≡◌, ◌∙◌, ℕ, zero, suc, ◌+◌, ◌-◌, ◌<◌, ◌≤◌, ◌++◌, ◌∷◌, [], List, Some, Bool, true, false, length, take, map, refl, sym, ap, ◌⊎◌, inl, inr, arith, length-append}
use Rattle.std.specs.Prelude.{slice_get, ◌||◌}
use Rattle.std.specs.List.{list_any}
use Rattle.std.proofs.lemmas.Bool.{cases_lt}
use Rattle.std.proofs.lemmas.List.{append_assoc, take-append-le}
use Rattle.std.proofs.lemmas.Option.{same_Some, slice_get_within}
use Rattle.std.proofs.Math.Seq.{take-append-add}

abbrev pub concat : {X : Type 0} → List (List X) → List X
concat [] = []
concat (xs ∷ xss) = xs ++ concat xss

-- how long the first n chunks are
abbrev pub start : {X : Type 0} → List (List X) → ℕ → ℕ
start xss n = length (concat (take n xss))

pub get_left : {X : Type 0} → (xs ys : List X) (k : ℕ) → k < length xs → slice_get (xs ++ ys) k ≡ slice_get xs k
get_left [] ys k l = absurd (omega arith)
get_left (x ∷ xs) ys zero l = refl
get_left (x ∷ xs) ys (suc k) l = get_left xs ys k (omega arith)

pub get_add : {X : Type 0} → (xs ys : List X) (k n : ℕ) → n ≡ length xs + k → slice_get (xs ++ ys) n ≡ slice_get ys k
get_add [] ys k n e = ap (slice_get ys) (omega arith)
get_add (x ∷ xs) ys k zero e = absurd (omega arith)
get_add (x ∷ xs) ys k (suc n) e = get_add xs ys k n (omega arith)

-- the element at a of the whole is one of a chunk
pub record At (X : Type 0) (xss : List (List X)) (a : ℕ) (x : X) : Type 0 where
  pub chunk : ℕ
  pub xs : List X
  pub index : ℕ
  pub has : slice_get xss chunk ≡ Some xs
  pub at : slice_get xs index ≡ Some x
  pub place : a ≡ start xss chunk + index
  pub before : take a (concat xss) ≡ concat (take chunk xss) ++ take index xs

pub locate : (X : Type 0) (xss : List (List X)) (a : ℕ) (x : X) → slice_get (concat xss) a ≡ Some x → At X xss a x
locate X [] a x e = absurd (cc e)
locate X (xs ∷ xss) a x e = elim (cases_lt a (length xs)) [
  | inl l ↦ record {
    chunk = 0;
    xs = xs;
    index = a;
    has = refl;
    at = sym (get_left xs (concat xss) a l) ∙ e;
    place = omega arith;
    before = take-append-le a xs (concat xss) (omega arith);
  }
  | inr g ↦
      let r = locate X xss (a - length xs) x (sym (get_add xs (concat xss) (a - length xs) a (omega arith)) ∙ e) in
      let far : a ≡ length xs + (a - length xs) = omega arith in
      record {
        chunk = suc r.chunk;
        xs = r.xs;
        index = r.index;
        has = r.has;
        at = r.at;
        place = omega (arith, r.place, length-append xs (concat (take r.chunk xss)), g);
        before = ap (λ k. take k (xs ++ concat xss)) far ∙ take-append-add xs (concat xss) (a - length xs) ∙ ap (λ ys. xs ++ ys) r.before
            ∙ sym (append_assoc xs (concat (take r.chunk xss)) (take r.index r.xs));
      }
]

pub placed : {X : Type 0} → (xss : List (List X)) (i j : ℕ) (xs : List X) (x : X) → slice_get xss i ≡ Some xs → slice_get xs j ≡ Some x → slice_get (concat xss) (start xss i + j) ≡ Some x
placed [] i j xs x h e = cc
placed (ys ∷ xss) zero j xs x h e =
    let same : ys ≡ xs = same_Some ys xs h in
    ap (slice_get (ys ++ concat xss)) (omega arith) ∙ get_left ys (concat xss) j (slice_get_within ys j x (ap (λ zs. slice_get zs j) same ∙ e)) ∙ ap (λ zs. slice_get zs j) same ∙ e
placed (ys ∷ xss) (suc i) j xs x h e =
    get_add ys (concat xss) (start xss i + j) (start (ys ∷ xss) (suc i) + j) (omega (arith, length-append ys (concat (take i xss)))) ∙ placed xss i j xs x h e

pub start_rises : {X : Type 0} → (xss : List (List X)) (i k : ℕ) → i ≤ k → start xss i ≤ start xss k
start_rises [] zero zero l = omega arith
start_rises [] zero (suc k) l = omega arith
start_rises [] (suc i) zero l = omega arith
start_rises [] (suc i) (suc k) l = omega arith
start_rises (ys ∷ xss) zero k l = omega arith
start_rises (ys ∷ xss) (suc i) zero l = absurd (omega arith)
start_rises (ys ∷ xss) (suc i) (suc k) l =
    let e = start_rises xss i k (omega arith) in
    omega (arith, e, length-append ys (concat (take i xss)), length-append ys (concat (take k xss)))

pub start_next : {X : Type 0} → (xss : List (List X)) (i k : ℕ) (xs : List X) → slice_get xss i ≡ Some xs → i < k → start xss i + length xs ≤ start xss k
start_next [] i k xs h l = absurd (cc h)
start_next (ys ∷ xss) zero zero xs h l = absurd (omega arith)
start_next (ys ∷ xss) zero (suc k) xs h l =
    let same : length ys ≡ length xs = ap length (same_Some ys xs h) in
    omega (arith, same, length-append ys (concat (take k xss)))
start_next (ys ∷ xss) (suc i) zero xs h l = absurd (omega arith)
start_next (ys ∷ xss) (suc i) (suc k) xs h l =
    let e = start_next xss i k xs h (omega arith) in
    omega (arith, e, length-append ys (concat (take i xss)), length-append ys (concat (take k xss)))

-- a place of the whole is one of one chunk
pub one_place : {X : Type 0} → (xss : List (List X)) (i k j m : ℕ) (xs ys : List X) → slice_get xss i ≡ Some xs → slice_get xss k ≡ Some ys → j < length xs → m < length ys → start xss i + j ≡ start xss k + m → (i ≡ k) × (j ≡ m)
one_place xss i k j m xs ys h g l r e = elim (cases_lt i k) [
  | inl less ↦ let far = start_next xss i k xs h less in absurd (omega (arith, far, e, l))
  | inr more ↦ elim (cases_lt k i) [
    | inl less ↦ let far = start_next xss k i ys g less in absurd (omega (arith, far, e, r))
    | inr same ↦
        let eq : i ≡ k = omega (arith, more, same) in
        (eq, let s : start xss i ≡ start xss k = ap (start xss) eq in omega (arith, s, e))
  ]
]

pub start_below : {X : Type 0} → (xss : List (List X)) (n : ℕ) → start xss n ≤ length (concat xss)
start_below [] zero = omega arith
start_below [] (suc n) = omega arith
start_below (ys ∷ xss) zero = omega arith
start_below (ys ∷ xss) (suc n) =
    let e = start_below xss n in
    omega (arith, e, length-append ys (concat (take n xss)), length-append ys (concat xss))

pub take_placed : {X : Type 0} → (xss : List (List X)) (i j : ℕ) (xs : List X) → slice_get xss i ≡ Some xs → j ≤ length xs → take (start xss i + j) (concat xss) ≡ concat (take i xss) ++ take j xs
take_placed [] i j xs h l = cc
take_placed (ys ∷ xss) zero j xs h l =
    let same : ys ≡ xs = same_Some ys xs h in
    let short : length ys ≡ length xs = ap length same in
    ap (λ k. take k (ys ++ concat xss)) (omega arith) ∙ take-append-le j ys (concat xss) (omega (arith, short, l)) ∙ ap (take j) same
take_placed (ys ∷ xss) (suc i) j xs h l =
    let far : start (ys ∷ xss) (suc i) + j ≡ length ys + (start xss i + j) = omega (arith, length-append ys (concat (take i xss))) in
    ap (λ k. take k (ys ++ concat xss)) far ∙ take-append-add ys (concat xss) (start xss i + j) ∙ ap (λ zs. ys ++ zs) (take_placed xss i j xs h l)
    ∙ sym (append_assoc ys (concat (take i xss)) (take j xs))

-- ---- chunks that are made of the elements of a list

pub take_map : {X Y : Type 0} → (f : X → Y) (n : ℕ) (xs : List X) → take n (map f xs) ≡ map f (take n xs)
take_map f zero xs = refl
take_map f (suc n) [] = refl
take_map f (suc n) (x ∷ xs) = ap (λ ys. f x ∷ ys) (take_map f n xs)

pub get_map : {X Y : Type 0} → (f : X → Y) (xs : List X) (a : ℕ) (x : X) → slice_get xs a ≡ Some x → slice_get (map f xs) a ≡ Some (f x)
get_map f [] a x e = cc
get_map f (y ∷ xs) zero x e = ap (λ z. Some (f z)) (same_Some y x e)
get_map f (y ∷ xs) (suc a) x e = get_map f xs a x e

pub map_get : {X Y : Type 0} → (f : X → Y) (xs : List X) (a : ℕ) (y : Y) → slice_get (map f xs) a ≡ Some y → (x : X) × (slice_get xs a ≡ Some x) × (f x ≡ y)
map_get f [] a y e = absurd (cc e)
map_get f (x ∷ xs) zero y e = (x, refl, same_Some (f x) y e)
map_get f (x ∷ xs) (suc a) y e = map_get f xs a y e

-- the element at a of the whole is one of the chunk of x
pub record In (X Y : Type 0) (f : X → List Y) (xs : List X) (a : ℕ) (y : Y) : Type 0 where
  pub place : ℕ
  pub x : X
  pub index : ℕ
  pub has : slice_get xs place ≡ Some x
  pub at : slice_get (f x) index ≡ Some y
  pub is : a ≡ start (map f xs) place + index
  pub before : take a (concat (map f xs)) ≡ concat (map f (take place xs)) ++ take index (f x)

pub found : (X Y : Type 0) (f : X → List Y) (xs : List X) (a : ℕ) (y : Y) → slice_get (concat (map f xs)) a ≡ Some y → In X Y f xs a y
found X Y f xs a y e =
    let r = locate Y (map f xs) a y e in
    let (x, has, same) = map_get f xs r.chunk r.xs r.has in
    record {
      place = r.chunk;
      x = x;
      index = r.index;
      has = has;
      at = ap (λ (zs : List Y). slice_get zs r.index) same ∙ r.at;
      is = r.place;
      before = r.before ∙ ap (λ (zs : List Y). concat (take r.chunk (map f xs)) ++ take r.index zs) (sym same)
          ∙ ap (λ (zss : List (List Y)). concat zss ++ take r.index (f x)) (take_map f r.chunk xs);
    }

-- ---- elements of a part

pub take_get : {X : Type 0} → (n a : ℕ) (xs : List X) (x : X) → slice_get (take n xs) a ≡ Some x → (a < n) × (slice_get xs a ≡ Some x)
take_get zero a xs x e = absurd (cc e)
take_get (suc n) a [] x e = absurd (cc e)
take_get (suc n) zero (y ∷ xs) x e = (omega arith, e)
take_get (suc n) (suc a) (y ∷ xs) x e = let r = take_get n a xs x e in (omega (arith, r.0), r.1)

pub get_take : {X : Type 0} → (n a : ℕ) (xs : List X) (x : X) → a < n → slice_get xs a ≡ Some x → slice_get (take n xs) a ≡ Some x
get_take zero a xs x l e = absurd (omega arith)
get_take (suc n) a [] x l e = cc
get_take (suc n) zero (y ∷ xs) x l e = e
get_take (suc n) (suc a) (y ∷ xs) x l e = get_take n a xs x (omega arith) e

some_true : (a b : Bool) → (a || b) ≡ true → (a ≡ true) ⊎ (b ≡ true)
some_true true b e = inl refl
some_true false b e = inr e

left_true : (a b : Bool) → a ≡ true → (a || b) ≡ true
left_true true b e = refl
left_true false b e = cc

right_true : (a b : Bool) → b ≡ true → (a || b) ≡ true
right_true true b e = refl
right_true false b e = e

pub any_from : {X : Type 0} → (t : X → Bool) (xs : List X) (a : ℕ) (x : X) → slice_get xs a ≡ Some x → t x ≡ true → list_any t xs ≡ true
any_from t [] a x h e = cc
any_from t (y ∷ xs) zero x h e = left_true (t y) (list_any t xs) (ap t (same_Some y x h) ∙ e)
any_from t (y ∷ xs) (suc a) x h e = right_true (t y) (list_any t xs) (any_from t xs a x h e)

pub any_is : {X : Type 0} → (t : X → Bool) (xs : List X) → list_any t xs ≡ true → (a : ℕ) × (x : X) × (slice_get xs a ≡ Some x) × (t x ≡ true)
any_is t [] e = absurd (cc e)
any_is t (y ∷ xs) e = elim (some_true (t y) (list_any t xs) e) [
  | inl here ↦ (0, y, refl, here)
  | inr there ↦ let r = any_is t xs there in (suc r.0, r.1, r.2, r.3)
]

either : (b : Bool) → (b ≡ true) ⊎ (b ≡ false)
either true = inl refl
either false = inr refl

pub none_from : {X : Type 0} → (t : X → Bool) (xs : List X) → ((a : ℕ) (x : X) → slice_get xs a ≡ Some x → t x ≡ true → ⊥) → list_any t xs ≡ false
none_from t xs refuted = elim (either (list_any t xs)) [
  | inl sure ↦ let r = any_is t xs sure in absurd (refuted r.0 r.1 r.2 r.3)
  | inr none ↦ none
]

-- what stands in two lists together
pub apart : {X : Type 0} → (xs ys : List X) (a : ℕ) (x : X) → slice_get (xs ++ ys) a ≡ Some x → (slice_get xs a ≡ Some x) ⊎ ((b : ℕ) × (a ≡ length xs + b) × (slice_get ys b ≡ Some x))
apart [] ys a x e = inr (a, omega arith, e)
apart (y ∷ xs) ys zero x e = inl e
apart (y ∷ xs) ys (suc a) x e = elim (apart xs ys a x e) [
  | inl here ↦ inl here
  | inr there ↦ inr (there.0, omega (arith, there.1), there.2)
]
