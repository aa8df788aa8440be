-- Tests on lists: where the first stands that passes, and whether one passes.
use Rattle.std.proofs.Common.{◌≡◌, ℕ, zero, suc, ◌+◌, ◌<◌, Bool, true, false, cond, List, [], ◌∷◌, take, Option, Some, None, refl, sym, ap, ◌∙◌, inl, inr, arith}
use Rattle.std.specs.Prelude.{slice_get, option_map, ◌||◌, is_some}
use Rattle.std.specs.List.{list_any}
use Rattle.std.proofs.lemmas.Bool.{cases_Bool, cases_lt}
use Rattle.std.proofs.lemmas.Option.{same_Some}
use Rattle.history_words.specs.Flaws.{first_place, some_and}
use Rattle.history_check.proofs.Entries.{passes, present}

pub clash : {b : Bool} → b ≡ true → b ≡ false → ⊥
clash t f = let e : true ≡ false = sym t ∙ f in cc

pub take_at : {X : Type 0} → (xs : List X) (n p : ℕ) (x : X) → slice_get (take n xs) p ≡ Some x → (slice_get xs p ≡ Some x) × (p < n)
take_at [] zero p x e = cc
take_at [] (suc n) p x e = cc
take_at (y ∷ ys) zero p x e = cc
take_at (y ∷ ys) (suc n) zero x e = (e, omega arith)
take_at (y ∷ ys) (suc n) (suc p) x e = let (at, l) = take_at ys n p x e in (at, omega arith)

pub at_take : {X : Type 0} → (xs : List X) (n p : ℕ) (x : X) → p < n → slice_get xs p ≡ Some x → slice_get (take n xs) p ≡ Some x
at_take [] n p x l e = cc
at_take (y ∷ ys) zero p x l e = absurd (omega arith)
at_take (y ∷ ys) (suc n) zero x l e = e
at_take (y ∷ ys) (suc n) (suc p) x l e = at_take ys n p x (omega arith) e

or_right : (a b : Bool) → b ≡ true → (a || b) ≡ true
or_right true b e = refl
or_right false b e = e

or_left : (a b : Bool) → a ≡ true → (a || b) ≡ true
or_left true b e = refl
or_left false b e = cc

pub one_passes : {X : Type 0} → (t : X → Bool) (xs : List X) (p : ℕ) (x : X) → slice_get xs p ≡ Some x → t x ≡ true → list_any t xs ≡ true
one_passes t [] p x at e = cc
one_passes t (y ∷ ys) zero x at e = or_left (t y) (list_any t ys) (ap t (same_Some y x at) ∙ e)
one_passes t (y ∷ ys) (suc p) x at e = or_right (t y) (list_any t ys) (one_passes t ys p x at e)

pub none_passes : {X : Type 0} → (t : X → Bool) (xs : List X) (p : ℕ) (x : X) → slice_get xs p ≡ Some x → list_any t xs ≡ false → t x ≡ false
none_passes t xs p x at e = elim (cases_Bool (t x)) [
  | inl hit ↦ absurd (clash (one_passes t xs p x at hit) e)
  | inr miss ↦ miss
]

pub record Passing {X : Type 0} (t : X → Bool) (xs : List X) : Type 0 where
  pub place : ℕ
  pub value : X
  pub at : slice_get xs place ≡ Some value
  pub passes : t value ≡ true

pub passing : {X : Type 0} → (t : X → Bool) (xs : List X) → list_any t xs ≡ true → Passing t xs
passing t [] e = cc
passing t (y ∷ ys) e = elim (cases_Bool (t y)) [
  | inl hit ↦ record { place = 0; value = y; at = refl; passes = hit }
  | inr miss ↦
      let rest = passing t ys (sym (ap (λ v. v || list_any t ys) miss) ∙ e) in
      record { place = suc rest.place; value = rest.value; at = rest.at; passes = rest.passes }
]

pub no_one : {X : Type 0} → (t : X → Bool) (xs : List X) → (list_any t xs ≡ true → ⊥) → list_any t xs ≡ false
no_one t xs h = elim (cases_Bool (list_any t xs)) [ inl hit ↦ absurd (h hit) | inr miss ↦ miss ]

some_map : (o : Option ℕ) → is_some (option_map (λ n. n + 1) o) ≡ is_some o
some_map None = refl
some_map (Some n) = refl

by_head : (v : Bool) (o : Option ℕ) (b : Bool) → is_some o ≡ b → is_some (cond v (Some 0) o) ≡ (v || b)
by_head true o b e = refl
by_head false o b e = e

-- a first one stands where one passes
pub first_is_any : {X : Type 0} → (t : X → Bool) (xs : List X) → is_some (first_place t xs) ≡ list_any t xs
first_is_any t [] = refl
first_is_any t (x ∷ xs) =
    by_head (t x) (option_map (λ n. n + 1) (first_place t xs)) (list_any t xs) (some_map (first_place t xs) ∙ first_is_any t xs)

is_there : (o : Option ℕ) → is_some o ≡ true → (p : ℕ) × (o ≡ Some p)
is_there None e = cc
is_there (Some p) e = (p, refl)

pub first_of_any : {X : Type 0} → (t : X → Bool) (xs : List X) → list_any t xs ≡ true → (p : ℕ) × (first_place t xs ≡ Some p)
first_of_any t xs e = is_there (first_place t xs) (first_is_any t xs ∙ e)

-- the first that passes is there, if none before it passes
pub first_is : {X : Type 0} → (t : X → Bool) (xs : List X) (p : ℕ) (x : X) → slice_get xs p ≡ Some x → t x ≡ true → list_any t (take p xs) ≡ false → first_place t xs ≡ Some p
first_is t [] p x at e none = cc
first_is t (y ∷ ys) zero x at e none = ap (λ v. cond v (Some 0) (option_map (λ n. n + 1) (first_place t ys))) (ap t (same_Some y x at) ∙ e)
first_is t (y ∷ ys) (suc p) x at e none =
    elim (cases_Bool (t y)) [
      | inl hit ↦ absurd (clash (or_left (t y) (list_any t (take p ys)) hit) none)
      | inr miss ↦
          let rest = first_is t ys p x at e (sym (ap (λ v. v || list_any t (take p ys)) miss) ∙ none) in
          let step : p + 1 ≡ suc p = omega arith in
          ap (λ v. cond v (Some 0) (option_map (λ n. n + 1) (first_place t ys))) miss ∙ ap (option_map (λ n. n + 1)) rest ∙ ap Some step
    ]

lowered : (o : Option ℕ) (b : ℕ) → option_map (λ n. n + 1) o ≡ Some b → (c : ℕ) × (o ≡ Some c) × (b ≡ suc c)
lowered None b e = cc
lowered (Some c) b e = (c, refl, let s : c + 1 ≡ b = same_Some (c + 1) b e in omega arith)

-- none before the first passes
pub first_before : {X : Type 0} → (t : X → Bool) (xs : List X) (p : ℕ) → first_place t xs ≡ Some p → list_any t (take p xs) ≡ false
first_before t [] p e = cc
first_before t (y ∷ ys) zero e = refl
first_before t (y ∷ ys) (suc p) e =
    elim (cases_Bool (t y)) [
      | inl hit ↦ absurd (let z : 0 ≡ suc p = same_Some 0 (suc p) (sym (ap (λ (v : Bool). cond v (Some 0) (option_map (λ n. n + 1) (first_place t ys))) hit) ∙ e) in omega arith)
      | inr miss ↦
          let (c, at, up) = lowered (first_place t ys) (suc p) (sym (ap (λ (v : Bool). cond v (Some 0) (option_map (λ n. n + 1) (first_place t ys))) miss) ∙ e) in
          let same : c ≡ p = omega arith in
          ap (λ v. v || list_any t (take p ys)) miss ∙ first_before t ys p (at ∙ ap Some same)
    ]

pub record First {X : Type 0} (t : X → Bool) (xs : List X) (p : ℕ) : Type 0 where
  pub value : X
  pub at : slice_get xs p ≡ Some value
  pub passes : t value ≡ true

pub first_there : {X : Type 0} → (t : X → Bool) (xs : List X) (p : ℕ) → first_place t xs ≡ Some p → First t xs p
first_there t xs p e =
    let (x, at) = present (slice_get xs p) t (passes t xs p e) in
    record { value = x; at = at; passes = sym (ap (λ o. some_and o t) at) ∙ passes t xs p e }

-- the first lies below p just if one of the first p passes
pub first_below : {X : Type 0} → (t : X → Bool) (xs : List X) (p q : ℕ) → first_place t xs ≡ Some q → q < p → list_any t (take p xs) ≡ true
first_below t xs p q e l = let f = first_there t xs q e in one_passes t (take p xs) q f.value (at_take xs p q f.value l f.at) f.passes

pub first_above : {X : Type 0} → (t : X → Bool) (xs : List X) (p q : ℕ) → first_place t xs ≡ Some q → list_any t (take p xs) ≡ true → q < p
first_above t xs p q e some =
    let x = passing t (take p xs) some in
    let (at, l) = take_at xs p x.place x.value x.at in
    elim (cases_lt x.place q) [
      | inl early ↦ absurd (clash x.passes (none_passes t (take q xs) x.place x.value (at_take xs q x.place x.value early at) (first_before t xs q e)))
      | inr late ↦ omega arith
    ]
