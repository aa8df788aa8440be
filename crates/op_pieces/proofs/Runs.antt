-- Byte enables of parts keep to the rule.
use Rattle.std.proofs.Common.{◌≡◌, ◌∙◌, ℕ, ◌+◌, ◌-◌, ◌*◌, ◌%◌, ◌<◌, ◌≤◌, ◌++◌, ◌∷◌, [], List, Bool, true, false, refl, sym, ap, arith}
use Rattle.std.specs.Prelude.{not, ◌&&◌, ◌||◌, ◌==◌, if◌then◌else◌}
use Rattle.std.specs.List.{list_all}
use Rattle.std.proofs.lemmas.Bool.Decides.{nat_tests}
use Rattle.tlp_core.specs.Enables.{enables, ends_in_gap, is_one_run, are_enables}
use Rattle.op_pieces.specs.Pieces.{inner, rest_first, rest_last, dw_to}
use Rattle.op_pieces.proofs.Effects.{enables_split}

none_left : (xs ys : List Bool) → list_all not (xs ++ ys) ≡ true → list_all not xs ≡ true
none_left [] ys h = refl
none_left (true ∷ xs) ys h = absurd (cc h)
none_left (false ∷ xs) ys h = none_left xs ys h

none_right : (xs ys : List Bool) → list_all not (xs ++ ys) ≡ true → list_all not ys ≡ true
none_right [] ys h = h
none_right (true ∷ xs) ys h = absurd (cc h)
none_right (false ∷ xs) ys h = none_right xs ys h

none_run : (ys : List Bool) → list_all not ys ≡ true → is_one_run ys ≡ true
unfolding is_one_run
none_run [] h = refl
none_run (true ∷ ys) h = absurd (cc h)
none_run (false ∷ ys) h = none_run ys h

gap_run : (ys : List Bool) → ends_in_gap ys ≡ true → is_one_run ys ≡ true
unfolding is_one_run ends_in_gap
gap_run [] h = refl
gap_run (true ∷ ys) h = h
gap_run (false ∷ ys) h = none_run ys h

gap_left : (xs ys : List Bool) → ends_in_gap (xs ++ ys) ≡ true → ends_in_gap xs ≡ true
unfolding ends_in_gap
gap_left [] ys h = refl
gap_left (true ∷ xs) ys h = gap_left xs ys h
gap_left (false ∷ xs) ys h = none_left xs ys h

gap_right : (xs ys : List Bool) → ends_in_gap (xs ++ ys) ≡ true → is_one_run ys ≡ true
unfolding ends_in_gap
gap_right [] ys h = gap_run ys h
gap_right (true ∷ xs) ys h = gap_right xs ys h
gap_right (false ∷ xs) ys h = none_run ys (none_right xs ys h)

run_left : (xs ys : List Bool) → is_one_run (xs ++ ys) ≡ true → is_one_run xs ≡ true
unfolding is_one_run
run_left [] ys h = refl
run_left (false ∷ xs) ys h = run_left xs ys h
run_left (true ∷ xs) ys h = gap_left xs ys h

run_right : (xs ys : List Bool) → is_one_run (xs ++ ys) ≡ true → is_one_run ys ≡ true
unfolding is_one_run
run_right [] ys h = h
run_right (false ∷ xs) ys h = run_right xs ys h
run_right (true ∷ xs) ys h = gap_right xs ys h

-- what the rule says of several DW
record Several (dw a f l : ℕ) : Type 0 where
  first : (f == 0) ≡ false
  last : (l == 0) ≡ false
  run : (is_one_run (enables dw f l) || ((dw == 2) && (a % 8 == 0))) ≡ true

by_three : (a b c : Bool) → (not a && not b && c) ≡ true → (a ≡ false) × ((b ≡ false) × (c ≡ true))
by_three false false true h = (refl, (refl, refl))
by_three true b c h = absurd (cc h)
by_three false true c h = absurd (cc h)
by_three false false false h = absurd (cc h)

branch : (b x y : Bool) → b ≡ false → (if b then x else y) ≡ true → y ≡ true
branch true x y e h = absurd (cc e)
branch false x y e h = h

several : (dw a f l : ℕ) → 2 ≤ dw → are_enables dw a f l ≡ true → Several dw a f l
several dw a f l more h =
    let not_one : (dw == 1) ≡ false = grind (arith, nat_tests) in
    let t = by_three (f == 0) (l == 0) (is_one_run (enables dw f l) || ((dw == 2) && (a % 8 == 0))) (branch (dw == 1) (l == 0) _ not_one h) in
    record { first = t.0; last = t.1.0; run = t.1.1 }

no_pair : (dw a d : ℕ) → a % 4 ≡ 0 → d ≡ dw_to 128 a → d < dw → ((dw == 2) && (a % 8 == 0)) ≡ false
no_pair dw a d whole e less = grind (arith, nat_tests)

one_or : (x y : Bool) → y ≡ false → (x || y) ≡ true → x ≡ true
one_or true y e h = refl
one_or false y e h = absurd (cc)

-- a rule of several DW
make : (dw a f l : ℕ) → (f == 0) ≡ false → (l == 0) ≡ false → is_one_run (enables dw f l) ≡ true → (not (f == 0) && not (l == 0) && (is_one_run (enables dw f l) || ((dw == 2) && (a % 8 == 0)))) ≡ true
make dw a f l first last run = rw (first, last, run) refl

by_one : (b x y : Bool) → (b ≡ true → x ≡ true) → (b ≡ false → y ≡ true) → (if b then x else y) ≡ true
by_one true x y p q = p refl
by_one false x y p q = q refl

front_last : (d : ℕ) → (d == 1) ≡ true → (inner d == 0) ≡ true
front_last d e = rw e refl

front_more : (d : ℕ) → (d == 1) ≡ false → (inner d == 0) ≡ false
front_more d e = rw e refl

back_last : (d l : ℕ) → (d == 1) ≡ true → (rest_last d l == 0) ≡ true
back_last d l e = rw e refl

back_first : (d l : ℕ) → (d == 1) ≡ false → (rest_first d l == 0) ≡ false
back_first d l e = rw e refl

back_more : (d l : ℕ) → (l == 0) ≡ false → (d == 1) ≡ false → (rest_last d l == 0) ≡ false
back_more d l h e = rw (e, h) refl

split_run : (dw a f l d : ℕ) → a % 4 ≡ 0 → d ≡ dw_to 128 a → d < dw → 1 ≤ d → are_enables dw a f l ≡ true
    → is_one_run (enables d f (inner d) ++ enables (dw - d) (rest_first (dw - d) l) (rest_last (dw - d) l)) ≡ true
split_run dw a f l d whole e less some h =
    let s = several dw a f l (omega (arith, less, some)) h in
    let sum : d + (dw - d) ≡ dw = omega (arith, less) in
    let both : enables dw f l ≡ enables d f (inner d) ++ enables (dw - d) (rest_first (dw - d) l) (rest_last (dw - d) l) =
    ap (λ v. enables v f l) (sym sum) ∙ enables_split d (dw - d) f l some (omega (arith, less)) in
    ap is_one_run (sym both) ∙ one_or (is_one_run (enables dw f l)) ((dw == 2) && (a % 8 == 0)) (no_pair dw a d whole e less) s.run

pub front_rule : (dw a f l d : ℕ) → a % 4 ≡ 0 → d ≡ dw_to 128 a → d < dw → 1 ≤ d → are_enables dw a f l ≡ true → are_enables d a f (inner d) ≡ true
front_rule dw a f l d whole e less some h =
    let s = several dw a f l (omega (arith, less, some)) h in
    let run = run_left (enables d f (inner d)) (enables (dw - d) (rest_first (dw - d) l) (rest_last (dw - d) l)) (split_run dw a f l d whole e less some h) in
    by_one (d == 1) (inner d == 0) _ (front_last d) (λ more. make d a f (inner d) s.first (front_more d more) run)

pub back_rule : (dw a f l d : ℕ) → a % 4 ≡ 0 → d ≡ dw_to 128 a → d < dw → 1 ≤ d → are_enables dw a f l ≡ true
    → are_enables (dw - d) (a + 4 * d) (rest_first (dw - d) l) (rest_last (dw - d) l) ≡ true
back_rule dw a f l d whole e less some h =
    let s = several dw a f l (omega (arith, less, some)) h in
    let k = dw - d in
    let run = run_right (enables d f (inner d)) (enables k (rest_first k l) (rest_last k l)) (split_run dw a f l d whole e less some h) in
    by_one (k == 1) (rest_last k l == 0) _ (back_last k l) (λ more. make k (a + 4 * d) (rest_first k l) (rest_last k l) (back_first k l more) (back_more k l s.last more) run)
