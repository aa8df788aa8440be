-- The first place that passes a test, and the first flaw, as lists grow.
use Rattle.std.proofs.Common.{◌≡◌, ℕ, zero, suc, ◌+◌, ◌<◌, Bool, true, false, cond, List, [], ◌∷◌, ◌++◌, length, Option, Some, None, refl, sym, ap, subst, ◌∙◌, inl, inr, add-one, arith}
use Rattle.std.specs.Prelude.{slice_get, option_map, ◌==◌, ◌||◌}
use Rattle.std.specs.Option.{option_or}
use Rattle.std.proofs.lemmas.Bool.{cases_eq, eq-eqb, ne_eqb}
use Rattle.history_words.specs.declared.flaws.Flaw.{Flaw}
use Rattle.history_words.specs.declared.flaws.FlawKind.{FlawKind}
use Rattle.history_words.specs.declared.flaws.FlawKind.TheVariants as flaws
use Rattle.history_words.specs.Flaws.{first_place, first_at, any_below, Tells}

shift : (o : Option ℕ) (b : Bool) (n : ℕ) → option_map (λ n. n + 1) (option_or o (cond b (Some n) None)) ≡ option_or (option_map (λ n. n + 1) o) (cond b (Some (suc n)) None)
shift (Some m) b n = refl
shift None true n = ap Some (add-one n)
shift None false n = refl

pick : (v : Bool) (o p q : Option ℕ) → p ≡ option_or o q → cond v (Some 0) p ≡ option_or (cond v (Some 0) o) q
pick true o p q e = refl
pick false o p q e = e

pub first_place-push : {X : Type 0} (t : X → Bool) → (xs : List X) (x : X) → first_place t (xs ++ x ∷ []) ≡ option_or (first_place t xs) (cond (t x) (Some (length xs)) None)
first_place-push t [] x = refl
first_place-push t (y ∷ ys) x =
    pick (t y) (option_map (λ n. n + 1) (first_place t ys)) _ (cond (t x) (Some (suc (length ys))) None) (ap (option_map (λ n. n + 1)) (first_place-push t ys x) ∙ shift (first_place t ys) (t x) (length ys))

pub or_none : {X : Type 0} (o : Option X) → option_or o None ≡ o
or_none None = refl
or_none (Some x) = refl

same_suc : (a b : ℕ) → (a == b) ≡ (suc a == suc b)
same_suc a b = elim (cases_eq a b) [
  | inl e ↦ eq-eqb a b e ∙ sym (eq-eqb (suc a) (suc b) (ap (λ n. suc n) e))
  | inr d ↦ ne_eqb a b d ∙ sym (ne_eqb (suc a) (suc b) (λ e. d (omega arith)))
]

pub slice_get-push : {X : Type 0} → (xs : List X) (x : X) (k : ℕ) → slice_get (xs ++ x ∷ []) k ≡ option_or (slice_get xs k) (cond (k == length xs) (Some x) None)
slice_get-push [] x zero = refl
slice_get-push [] x (suc k) = rw (ne_eqb (suc k) 0 (λ e. omega arith)) refl
slice_get-push (y ∷ ys) x zero = refl
slice_get-push (y ∷ ys) x (suc k) = slice_get-push ys x k ∙ ap (λ t. option_or (slice_get ys k) (cond t (Some x) None)) (same_suc k (length ys))

-- ---- the first flaw

pub first_at-none : (f : ℕ → Option FlawKind) → first_at f 0 ≡ None
unfolding first_at
first_at-none f = refl

join : (o : Option (FlawKind × ℕ)) (k : Option FlawKind) (n : ℕ) → o ≡ None → k ≡ None → option_or o (option_map (λ kind. (kind, n)) k) ≡ None
join o k n e1 e2 = rw (e1, e2) refl

pub first_at-more : (f : ℕ → Option FlawKind) (n : ℕ) → first_at f n ≡ None → f n ≡ None → first_at f (n + 1) ≡ None
unfolding first_at
first_at-more f n e1 e2 = rw add-one (join (first_at f n) (f n) n e1 e2)

found : (o : Option (FlawKind × ℕ)) (k : Option FlawKind) (n : ℕ) (kind : FlawKind) → o ≡ None → k ≡ Some kind → option_or o (option_map (λ kind. (kind, n)) k) ≡ Some (kind, n)
found o k n kind e1 e2 = rw (e1, e2) refl

kept : (o : Option (FlawKind × ℕ)) (k : Option (FlawKind × ℕ)) (x : FlawKind × ℕ) → o ≡ Some x → option_or o k ≡ Some x
kept o k x e = rw e refl

pub first_at-found : (f : ℕ → Option FlawKind) (i n : ℕ) (kind : FlawKind) → first_at f i ≡ None → f i ≡ Some kind → i < n → first_at f n ≡ Some (kind, i)
unfolding first_at
first_at-found f i zero kind e1 e2 h = absurd (omega arith)
first_at-found f i (suc n) kind e1 e2 h =
    elim (cases_eq i n) [
      | inl e ↦ subst (λ m. first_at f (suc m) ≡ Some (kind, i)) e (found (first_at f i) (f i) i kind e1 e2)
      | inr d ↦ kept (first_at f n) _ (kind, i) (first_at-found f i n kind e1 e2 (omega arith))
    ]

split : (o : Option (FlawKind × ℕ)) (k : Option FlawKind) (n : ℕ) → option_or o (option_map (λ kind. (kind, n)) k) ≡ None → (o ≡ None) × (k ≡ None)
split None None n e = (refl, refl)
split None (Some k) n e = cc
split (Some o) k n e = cc

pub first_at-below : (f : ℕ → Option FlawKind) (n : ℕ) → first_at f n ≡ None → (i : ℕ) → i < n → f i ≡ None
unfolding first_at
first_at-below f zero e i h = absurd (omega arith)
first_at-below f (suc n) e i h =
    let (e1, e2) = split (first_at f n) (f n) n e in
    elim (cases_eq i n) [
      | inl s ↦ ap f s ∙ e2
      | inr d ↦ first_at-below f n e1 i (omega arith)
    ]

-- ---- a test below a number

pub any_below-none : (f : ℕ → Bool) → any_below f 0 ≡ false
unfolding any_below
any_below-none f = refl

or_false : (a b : Bool) → a ≡ false → b ≡ false → (a || b) ≡ false
or_false a b e1 e2 = rw (e1, e2) refl

or_right : (a b : Bool) → b ≡ true → (a || b) ≡ true
or_right true b e = refl
or_right false b e = e

pub any_below-all : (f : ℕ → Bool) (n : ℕ) → ((j : ℕ) → j < n → f j ≡ false) → any_below f n ≡ false
unfolding any_below
any_below-all f zero h = refl
any_below-all f (suc n) h = or_false (any_below f n) (f n) (any_below-all f n (λ j l. h j (omega arith))) (h n (omega arith))

pub any_below-one : (f : ℕ → Bool) (n j : ℕ) → j < n → f j ≡ true → any_below f n ≡ true
unfolding any_below
any_below-one f zero j h e = absurd (omega arith)
any_below-one f (suc n) j h e =
    elim (cases_eq j n) [
      | inl s ↦ or_right (any_below f n) (f n) (ap f (sym s) ∙ e)
      | inr d ↦ rw (any_below-one f n j (omega arith) e) refl
    ]

-- ---- what a flaw tells

-- the first one is told
pub tells : (first : Option (FlawKind × ℕ)) (f : Flaw) → first ≡ Some (f.kind, f.place) → (f.kind ≡ flaws.Memory → ⊥) → Tells first f
tells first f is other = record { told = λ h. is; refused = λ e. absurd (other e) }
