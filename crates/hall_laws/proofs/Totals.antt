-- Lists by place, and what holds of each element.
use Rattle.std.proofs.Common.{◌≡◌, ◌≢◌, ℕ, subst, zero, suc, ◌+◌, ◌<◌, ◌≤◌, List, [], ◌∷◌, ◌++◌, length, get_or, set, sym, refl, ap, ◌∙◌, inl, inr, ⊎_elim, arith, cond, Bool, true}
use Rattle.std.proofs.Common.{eq-eqb}
use mathlib.Core.Option.{some, some-injective, some-ne-none}
use lib.ListN.{get_elem?}
use Rattle.fabric_steps.specs.Lists.{Each}
use Rattle.hall_laws.specs.declared.part.PartValue.{PartValue}
use Rattle.hall_laws.specs.declared.token.Token.{Token}
use Rattle.hall_laws.specs.Standing.{total, one_if_same, times, serving, named, Values, Covers, Outside, SomeHolds, AreAlike}

pub at_number : (l : List ℕ) (i : ℕ) → i < length l → get_elem? l i ≡ some (get_or l i 0)
at_number [] i h = absurd (omega arith)
at_number (x ∷ xs) zero h = refl
at_number (x ∷ xs) (suc i) h = at_number xs i (omega arith)

module _ {X : Type 0} where
  pub each_map : {P Q : X → Type 0} (f : (x : X) → P x → Q x) (xs : List X) → Each P xs → Each Q xs
  each_map f [] e = tt
  each_map f (x ∷ xs) e = (f x e.0, each_map f xs e.1)

  pub each_two : {P Q R : X → Type 0} (f : (x : X) → P x → Q x → R x) (xs : List X) → Each P xs → Each Q xs → Each R xs
  each_two f [] e d = tt
  each_two f (x ∷ xs) e d = (f x e.0 d.0, each_two f xs e.1 d.1)

  -- the total after a change of one element
  pub total_set : (f : X → ℕ) (xs : List X) (i : ℕ) (x y : X) → get_elem? xs i ≡ some x → total f (set xs i y) + f x ≡ total f xs + f y
  total_set f [] i x y e = absurd (some-ne-none x (sym e))
  total_set f (a ∷ xs) zero x y e = let s = ap f (some-injective a x e) in omega arith
  total_set f (a ∷ xs) (suc i) x y e = let h = total_set f xs i x y e in omega arith

  -- two elements at two places weigh no more than the total
  pub total_one : (f : X → ℕ) (xs : List X) (i : ℕ) (x : X) → get_elem? xs i ≡ some x → f x ≤ total f xs
  total_one f [] i x e = absurd (some-ne-none x (sym e))
  total_one f (a ∷ xs) zero x e = let s = ap f (some-injective a x e) in omega arith
  total_one f (a ∷ xs) (suc i) x e = let h = total_one f xs i x e in omega arith

  pub total_two : (f : X → ℕ) (xs : List X) (i j : ℕ) (x y : X) → i ≢ j → get_elem? xs i ≡ some x → get_elem? xs j ≡ some y → f x + f y ≤ total f xs
  total_two f [] i j x y n e d = absurd (some-ne-none x (sym e))
  total_two f (a ∷ xs) zero zero x y n e d = absurd (n refl)
  total_two f (a ∷ xs) zero (suc j) x y n e d = let s = ap f (some-injective a x e) in let h = total_one f xs j y d in omega arith
  total_two f (a ∷ xs) (suc i) zero x y n e d = let s = ap f (some-injective a y d) in let h = total_one f xs i x e in omega arith
  total_two f (a ∷ xs) (suc i) (suc j) x y n e d = let h = total_two f xs i j x y (λ q. n (ap suc q)) e d in omega arith

  pub total_none : (f : X → ℕ) (xs : List X) → ((i : ℕ) (x : X) → get_elem? xs i ≡ some x → f x ≡ 0) → total f xs ≡ 0
  total_none f [] h = refl
  total_none f (a ∷ xs) h = let x = h 0 a refl in let y = total_none f xs (λ i z e. h (suc i) z e) in omega arith

  pub total_append : (f : X → ℕ) (xs : List X) (x : X) → total f (xs ++ x ∷ []) ≡ total f xs + f x
  total_append f [] x = omega arith
  total_append f (a ∷ xs) x = let h = total_append f xs x in omega arith

pub one_is : (m n : ℕ) → m ≡ n → one_if_same m n ≡ 1
one_is m n e = let P : Bool → Type 0 = λ b. ◌≡◌ {A = ℕ} (cond b 1 0) 1 in let start : P true = refl in subst P (sym (eq-eqb m n e)) start

-- no token has the number n
pub not_among : (n : ℕ) (ts : List Token) → named n ts ≡ 0 → Each (λ (t : Token). t.knows.number ≢ n) ts
not_among n [] e = tt
not_among n (u ∷ us) e = let z : one_if_same n u.knows.number + named n us ≡ 0 = e in ((λ same. let o = one_is n u.knows.number (sym same) in let a : ℕ = one_if_same n u.knows.number in omega arith), not_among n us (omega arith))

pub named_self : (t : Token) (ts : List Token) → named t.knows.number (t ∷ ts) ≡ 1 + named t.knows.number ts
named_self t ts = let o = one_is t.knows.number t.knows.number refl in ap (λ (x : ℕ). x + named t.knows.number ts) o

pub covers_outside : (h : Values) (j k : ℕ) → Outside j h → Covers h k → j ≢ k
covers_outside [] j k o c = absurd c
covers_outside (kv ∷ h) j k o c = ⊎_elim (λ (e : kv.0 ≡ k). λ s. o.0 (s ∙ sym e)) (λ (d : Covers h k). covers_outside h j k o.1 d) c

pub covered : (Q : ℕ × PartValue → Type 0) (R : ℕ → Type 0) (f : (kv : ℕ × PartValue) → Q kv → R kv.0) (h : Values) (k : ℕ) → Each Q h → Covers h k → R k
covered Q R f [] k e c = absurd c
covered Q R f (kv ∷ h) k e c = ⊎_elim (λ (same : kv.0 ≡ k). subst R same (f kv e.0)) (λ (d : Covers h k). covered Q R f h k e.1 d) c

pub there : {X : Type 0} (l : List X) (k : ℕ) → k < length l → (a : X) × (get_elem? l k ≡ some a)
there [] k h = absurd (omega arith)
there (x ∷ xs) zero h = (x, refl)
there (x ∷ xs) (suc k) h = there xs k (omega arith)

pub serves_none : (n : ℕ) (ts : List Token) → Each (λ (t : Token). times n t.knows.served ≡ 0) ts → serving n ts ≡ 0
serves_none n [] e = refl
serves_none n (t ∷ ts) e = let a = e.0 in let b = serves_none n ts e.1 in let x : ℕ = times n t.knows.served in let y : ℕ = serving n ts in let p : x ≡ 0 = a in let q : y ≡ 0 = b in let g : x + y ≡ 0 = omega arith in g

pub at_length : {X : Type 0} (l : List X) (k : ℕ) (a : X) → get_elem? l k ≡ some a → k < length l
at_length [] k a e = absurd (some-ne-none a (sym e))
at_length (x ∷ xs) zero a e = omega arith
at_length (x ∷ xs) (suc k) a e = let h = at_length xs k a e in omega arith

pub each_append : {X : Type 0} (P : X → Type 0) (xs ys : List X) → Each P xs → Each P ys → Each P (xs ++ ys)
each_append P [] ys a b = b
each_append P (x ∷ xs) ys a b = (a.0, each_append P xs ys a.1 b)

pub total_join : {X : Type 0} (f : X → ℕ) (xs ys : List X) → total f (xs ++ ys) ≡ total f xs + total f ys
total_join f [] ys = omega arith
total_join f (x ∷ xs) ys = let h = total_join f xs ys in omega arith

pub holds_left : (n j : ℕ) (xs ys : List Token) → SomeHolds n j xs → SomeHolds n j (xs ++ ys)
holds_left n j [] ys h = absurd h
holds_left n j (x ∷ xs) ys h = ⊎_elim (λ (a : (x.knows.number ≡ n) × Covers x.held j). inl a) (λ (b : SomeHolds n j xs). inr (holds_left n j xs ys b)) h

pub holds_right : (n j : ℕ) (xs ys : List Token) → SomeHolds n j ys → SomeHolds n j (xs ++ ys)
holds_right n j [] ys h = h
holds_right n j (x ∷ xs) ys h = inr (holds_right n j xs ys h)

-- the other tokens of a view

pub same_alike : (ts : List Token) → AreAlike ts ts
same_alike [] = tt
same_alike (t ∷ ts) = ((refl, refl, refl), same_alike ts)

pub alike_named : (n : ℕ) (ts us : List Token) → AreAlike ts us → named n us ≡ named n ts
alike_named n [] [] a = refl
alike_named n (t ∷ ts) (u ∷ us) a = let h = alike_named n ts us a.1 in let e = ap (one_if_same n) a.0.0 in omega arith
alike_named n [] (u ∷ us) a = absurd a
alike_named n (t ∷ ts) [] a = absurd a

pub alike_serving : (n : ℕ) (ts us : List Token) → AreAlike ts us → serving n us ≡ serving n ts
alike_serving n [] [] a = refl
alike_serving n (t ∷ ts) (u ∷ us) a = let h = alike_serving n ts us a.1 in let e = ap (times n) a.0.2 in omega arith
alike_serving n [] (u ∷ us) a = absurd a
alike_serving n (t ∷ ts) [] a = absurd a

pub alike_holds : (n j : ℕ) (ts us : List Token) → AreAlike ts us → SomeHolds n j ts → SomeHolds n j us
alike_holds n j [] [] a h = h
alike_holds n j (t ∷ ts) (u ∷ us) a h = ⊎_elim (λ (x : (t.knows.number ≡ n) × Covers t.held j). inl (a.0.0 ∙ x.0, subst (λ (l : Values). Covers l j) (sym a.0.1) x.1)) (λ (y : SomeHolds n j ts). inr (alike_holds n j ts us a.1 y)) h
alike_holds n j [] (u ∷ us) a h = absurd a
alike_holds n j (t ∷ ts) [] a h = absurd a
