-- Results that are mapped, and values of a known kind.
use Rattle.std.proofs.Common.{◌≡◌, Result, Ok, Err, refl, sym, ap, subst}
use Rattle.fabric_steps.specs.declared.fault.Refusal.{Refusal}
use Rattle.fabric_core.specs.Answers.{map_ok, Refuses}

pub same_ok : {A E : Type 0} {x y : A} → ◌≡◌ {A = Result A E} (Ok x) (Ok y) → x ≡ y
same_ok h = cc

-- what holds of two values holds of any that they are
pub over : {A B : Type 0} (Q : A → B → Type 0) (a a' : A) (b b' : B) → a ≡ a' → b ≡ b' → Q a' b' → Q a b
over {A = A} {B = B} Q a a' b b' x y q = subst (λ (z : A). Q z b) (sym x) (subst (λ (z : B). Q a' z) (sym y) q)

-- what holds of each value holds of the one that a mapped result has
pub of_ok : {A B : Type 0} (r : Result A Refusal) (f : A → B) (G : B → Type 0) (y : B) → ((a : A) → r ≡ Ok a → G (f a)) → map_ok r f ≡ Ok y → G y
of_ok (Ok a) f G y go is = subst G (same_ok is) (go a refl)
of_ok (Err x) f G y go is = absurd (cc)

pub of_err : {A B : Type 0} (r : Result A Refusal) (f : A → B) (x : Refusal) → map_ok r f ≡ Err x → r ≡ Err x
of_err (Ok a) f x is = absurd (cc)
of_err (Err z) f x is = cc

-- a refusal of the mapped result is one of the result
pub of_refused : {A B : Type 0} (r : Result A Refusal) (f : A → B) (big : B → Refusal → Type 0) (small : A → Refusal → Type 0) (why : Refusal)
    → ((a : A) → big (f a) why → small a why) → Refuses big (map_ok r f) why → Refuses small r why
of_refused (Ok a) f big small why go h = go a h
of_refused (Err x) f big small why go h = h

-- where nothing grows, it is the result's error
pub of_error : {A B : Type 0} (r : Result A Refusal) (f : A → B) (big : B → Refusal → Type 0) (why : Refusal) → ((a : A) → big (f a) why → ⊥) → Refuses big (map_ok r f) why → r ≡ Err why
of_error (Ok a) f big why none h = absurd (none a h)
of_error (Err x) f big why none h = ap Err (sym h)
