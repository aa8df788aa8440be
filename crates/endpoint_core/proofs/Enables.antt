-- Byte enables of the parts of a read.
use Rattle.std.proofs.Common.{◌≡◌, ◌≢◌, ◌∙◌, ℕ, zero, suc, ◌+◌, ◌-◌, ◌*◌, ◌<◌, ◌≤◌, Bool, true, false, List, [], ◌∷◌, ◌++◌, replicate, append_assoc, refl, ap, sym, arith}
use Rattle.std.specs.Prelude.{not, IsTrue}
use Rattle.std.specs.List.{list_all}
use Rattle.std.proofs.lemmas.Bool.Decides.{nat_tests}
use Rattle.std.proofs.lemmas.Bool.{false≢true, true≢false}
use Rattle.std.proofs.lemmas.List.{replicate-append-replicate}
use Rattle.tlp_core.specs.Enables.{dw_enables, enables, ends_in_gap, is_one_run, are_enables}
use Rattle.op_pieces.specs.Pieces.{inner, rest_first, rest_last}

-- ---- one run, and its parts

none_before : (xs ys : List Bool) → list_all not (xs ++ ys) ≡ true → list_all not xs ≡ true
none_before [] ys h = refl
none_before (true ∷ xs) ys h = absurd (false≢true h)
none_before (false ∷ xs) ys h = none_before xs ys h

gap_before : (xs ys : List Bool) → ends_in_gap (xs ++ ys) ≡ true → ends_in_gap xs ≡ true
unfolding ends_in_gap
gap_before [] ys h = refl
gap_before (true ∷ xs) ys h = gap_before xs ys h
gap_before (false ∷ xs) ys h = none_before xs ys h

run_before : (xs ys : List Bool) → is_one_run (xs ++ ys) ≡ true → is_one_run xs ≡ true
unfolding is_one_run
run_before [] ys h = refl
run_before (true ∷ xs) ys h = gap_before xs ys h
run_before (false ∷ xs) ys h = run_before xs ys h

some_behind : (xs ys : List Bool) → list_all not (xs ++ true ∷ ys) ≡ false
some_behind [] ys = refl
some_behind (true ∷ xs) ys = refl
some_behind (false ∷ xs) ys = some_behind xs ys

gap_behind : (xs ys : List Bool) → ends_in_gap (xs ++ true ∷ ys) ≡ true → ends_in_gap ys ≡ true
unfolding ends_in_gap
gap_behind [] ys h = h
gap_behind (true ∷ xs) ys h = gap_behind xs ys h
gap_behind (false ∷ xs) ys h = absurd (true≢false (sym h ∙ some_behind xs ys))

run_behind : (xs ys : List Bool) → is_one_run (xs ++ true ∷ ys) ≡ true → is_one_run (true ∷ ys) ≡ true
unfolding is_one_run
run_behind [] ys h = h
run_behind (true ∷ xs) ys h = gap_behind xs ys h
run_behind (false ∷ xs) ys h = run_behind xs ys h

-- ---- the enables of several DW

more_dws : (dw f l : ℕ) → 2 ≤ dw → enables dw f l ≡ dw_enables f ++ replicate (4 * (dw - 2)) true ++ dw_enables l
unfolding enables
more_dws dw f l h = grind (arith, nat_tests)

pub of_three : (dw a f l : ℕ) → 3 ≤ dw → IsTrue (are_enables dw a f l) → (f ≢ 0) × (l ≢ 0) × (is_one_run (enables dw f l) ≡ true)
of_three dw a f l h t = grind (arith, nat_tests)

split : (f l n k : ℕ) → dw_enables f ++ replicate (n + k) true ++ dw_enables l ≡ (dw_enables f ++ replicate n true) ++ (replicate k true ++ dw_enables l)
split f l n k = rw (← replicate-append-replicate n k true, append_assoc (replicate n true) (replicate k true) (dw_enables l), append_assoc (dw_enables f) (replicate n true) (replicate k true ++ dw_enables l)) refl

front_run : (dw n f l : ℕ) → 2 ≤ n → n < dw → is_one_run (enables dw f l) ≡ true → is_one_run (enables n f 15) ≡ true
front_run dw n f l two less run =
    let m : ℕ = 4 * (n - 2) + 4 in
    let k : ℕ = 4 * (dw - 1 - n) in
    let all : 4 * (dw - 2) ≡ m + k = omega (arith, two, less) in
    let parts : enables dw f l ≡ (dw_enables f ++ replicate m true) ++ (replicate k true ++ dw_enables l) =
    more_dws dw f l (omega (arith, two, less)) ∙ ap (λ x. dw_enables f ++ replicate x true ++ dw_enables l) all ∙ split f l m k in
    let front : enables n f 15 ≡ dw_enables f ++ replicate m true =
    more_dws n f 15 two ∙ ap (λ x. dw_enables f ++ x) (replicate-append-replicate (4 * (n - 2)) 4 true) in
    ap is_one_run front ∙ run_before (dw_enables f ++ replicate m true) (replicate k true ++ dw_enables l) (sym (ap is_one_run parts) ∙ run)

behind_run : (dw n f l : ℕ) → 1 ≤ n → n + 2 ≤ dw → is_one_run (enables dw f l) ≡ true → is_one_run (enables (dw - n) 15 l) ≡ true
behind_run dw n f l one two run =
    let m : ℕ = 4 * (n - 1) in
    let k : ℕ = 4 * (dw - n - 2) in
    let all : 4 * (dw - 2) ≡ m + (4 + k) = omega (arith, one, two) in
    let parts : enables dw f l ≡ (dw_enables f ++ replicate m true) ++ (true ∷ true ∷ true ∷ true ∷ (replicate k true ++ dw_enables l)) =
    more_dws dw f l (omega (arith, one, two)) ∙ ap (λ x. dw_enables f ++ replicate x true ++ dw_enables l) all ∙ split f l m (4 + k)
    ∙ ap (λ (xs : List Bool). (dw_enables f ++ replicate m true) ++ (xs ++ dw_enables l)) (sym (replicate-append-replicate 4 k true)) in
    let behind : enables (dw - n) 15 l ≡ true ∷ true ∷ true ∷ true ∷ (replicate k true ++ dw_enables l) =
    more_dws (dw - n) 15 l (omega (arith, one, two)) in
    ap is_one_run behind ∙ run_behind (dw_enables f ++ replicate m true) (true ∷ true ∷ true ∷ (replicate k true ++ dw_enables l)) (sym (ap is_one_run parts) ∙ run)

-- ---- the rule, of both parts

by_run : (dw a f l : ℕ) → 2 ≤ dw → f ≢ 0 → l ≢ 0 → is_one_run (enables dw f l) ≡ true → IsTrue (are_enables dw a f l)
by_run dw a f l two nf nl run = grind (arith, nat_tests)

pub front_enabled : (dw n a f l : ℕ) → 1 ≤ n → n < dw → IsTrue (are_enables dw a f l) → IsTrue (are_enables n a f (inner n))
front_enabled dw zero a f l one less t = absurd (omega (arith, one))
front_enabled dw (suc zero) a f l one less t = refl
front_enabled dw (suc (suc n)) a f l one less t =
    let p = of_three dw a f l (omega (arith, less)) t in
    let is : inner (suc (suc n)) ≡ 15 = grind (arith, nat_tests) in
    rw (is) (by_run (suc (suc n)) a f 15 (omega arith) p.0 (omega arith) (front_run dw (suc (suc n)) f l (omega arith) less p.2))

behind_many : (dw n m a f l : ℕ) → dw ≡ n + suc (suc m) → 1 ≤ n → IsTrue (are_enables dw a f l) → IsTrue (are_enables (dw - n) (a + 4 * n) 15 l)
behind_many dw n m a f l e one t =
    let p = of_three dw a f l (omega (arith, e, one)) t in
    by_run (dw - n) (a + 4 * n) 15 l (omega (arith, e)) (omega arith) p.1 (behind_run dw n f l one (omega (arith, e)) p.2)

behind_by : (dw n k a f l : ℕ) → dw - n ≡ k → 1 ≤ n → n < dw → IsTrue (are_enables dw a f l) → IsTrue (are_enables (dw - n) (a + 4 * n) (rest_first (dw - n) l) (rest_last (dw - n) l))
behind_by dw n zero a f l e one less t = absurd (omega (arith, e, less))
behind_by dw n (suc zero) a f l e one less t = rw (e) refl
behind_by dw n (suc (suc m)) a f l e one less t =
    let first : rest_first (dw - n) l ≡ 15 = grind (arith, nat_tests) in
    let last : rest_last (dw - n) l ≡ l = grind (arith, nat_tests) in
    rw (first, last) (behind_many dw n m a f l (omega (arith, e, less)) one t)

pub behind_enabled : (dw n a f l : ℕ) → 1 ≤ n → n < dw → IsTrue (are_enables dw a f l) → IsTrue (are_enables (dw - n) (a + 4 * n) (rest_first (dw - n) l) (rest_last (dw - n) l))
behind_enabled dw n a f l one less t = behind_by dw n (dw - n) a f l refl one less t
