-- How many elements of a list pass a test, by the numbers that two keys of theirs have.
use Rattle.std.proofs.Common.{◌≡◌, ◌≢◌, ℕ, zero, suc, ◌+◌, ◌*◌, ◌<◌, Bool, true, false, cond, eqb, ◌&&◌, ◌||◌, List, [], ◌∷◌, length, take, refl, sym, ap, ◌∙◌, true≢false, eq-eqb, ne_eqb, arith}
use Rattle.std.proofs.lemmas.Bool.{eqb-true}
use Rattle.std.proofs.lemmas.List.Sums.{sum_by-cons}
use Rattle.std.specs.List.{count_by, list_any}
use Rattle.std.specs.Prelude.{Some, None, slice_get}
use native.Mathlib.Decide.{ℕ_discrete}

pub none_some : {A : Type 0} (x : A) → None ≡ Some x → ⊥
none_some x e = cc

pub same_some : {A : Type 0} (x y : A) → Some x ≡ Some y → x ≡ y
same_some x y e = cc

pub both_true : (a b : Bool) → (a && b) ≡ true → (a ≡ true) × (b ≡ true)
both_true true b e = (refl, e)
both_true false b e = absurd (true≢false (sym e))

-- ---- sums

-- the numbers of g below n
abbrev sum_to : ℕ → (ℕ → ℕ) → ℕ
sum_to zero g = 0
sum_to (suc n) g = sum_to n g + g n

sum_zero : (n : ℕ) (g : ℕ → ℕ) → ((k : ℕ) → k < n → g k ≡ 0) → sum_to n g ≡ 0
sum_zero zero g h = refl
sum_zero (suc n) g h = let before = sum_zero n g (λ k below. h k (omega arith)) in let last = h n (omega arith) in omega arith

sum_plus : (n : ℕ) (g h : ℕ → ℕ) → sum_to n (λ k. g k + h k) ≡ sum_to n g + sum_to n h
sum_plus zero g h = refl
sum_plus (suc n) g h = let before = sum_plus n g h in omega arith

more_times : (n c : ℕ) → n * c + c ≡ suc n * c
more_times n c = grind arith

sum_all : (n c : ℕ) (g : ℕ → ℕ) → ((k : ℕ) → k < n → g k ≡ c) → sum_to n g ≡ n * c
sum_all zero c g h = let none : 0 ≡ 0 * c = omega arith in none
sum_all (suc n) c g h = let before = sum_all n c g (λ k below. h k (omega arith)) in let last = h n (omega arith) in ap (λ s. s + g n) before ∙ ap (λ s. n * c + s) last ∙ more_times n c

-- where the first is 0
sum_behind : (n c : ℕ) (g : ℕ → ℕ) → g 0 ≡ 0 → ((k : ℕ) → 0 < k → k < suc n → g k ≡ c) → sum_to (suc n) g ≡ n * c
sum_behind zero c g first h = let none : 0 + g 0 ≡ 0 * c = omega arith in none
sum_behind (suc n) c g first h = ap (λ s. s + g (suc n)) (sum_behind n c g first (λ k some below. h k some (omega arith))) ∙ ap (λ s. n * c + s) (h (suc n) (omega arith) (omega arith)) ∙ more_times n c

under : (n m : ℕ) → m < suc n → n ≢ m → m < n
under n m below other = omega arith

plus : {a b c d : ℕ} → a ≡ c → b ≡ d → a + b ≡ c + d
plus e f = λ j. e j + f j

-- 1 at m alone
abbrev flag_at : ℕ → ℕ → ℕ
flag_at m k = cond (eqb k m) 1 0

flag_yes : (m k : ℕ) → k ≡ m → flag_at m k ≡ 1
flag_yes m k e = ap (λ (b : Bool). cond {A = ℕ} b 1 0) (eq-eqb k m e)

flag_no : (m k : ℕ) → k ≢ m → flag_at m k ≡ 0
flag_no m k n = ap (λ (b : Bool). cond {A = ℕ} b 1 0) (ne_eqb k m n)

sum_one : (n m : ℕ) → m < n → sum_to n (flag_at m) ≡ 1
sum_one zero m below = absurd (omega arith)
sum_one (suc n) m below = elim (ℕ_discrete n m) as (λ _. sum_to n (flag_at m) + flag_at m n ≡ 1) [
  | yes e ↦
      let before = sum_zero n (flag_at m) (λ k less. flag_no m k (λ same. let k_is : k ≡ m = same in let n_is : n ≡ m = e in omega arith)) in
      plus before (flag_yes m n e)
  | no other ↦ plus (sum_one n m (under n m below other)) (flag_no m n other)
]

sum_flag : (b : Bool) (n m : ℕ) → (b ≡ true → m < n) → sum_to n (λ k. cond (b && eqb k m) 1 0) ≡ cond b 1 0
sum_flag true n m below = sum_one n m (below refl)
sum_flag false n m below = sum_zero n (λ k. 0) (λ k _. refl)

-- ---- counts

zero_more : (n : ℕ) → 0 + n ≡ n
zero_more n = omega arith

one_more : (n : ℕ) → 1 + n ≡ suc n
one_more n = omega arith

pub count_none : {A : Type 0} (p : A → Bool) (xs : List A) → ((b : ℕ) (y : A) → slice_get xs b ≡ Some y → p y ≡ true → ⊥) → count_by p xs ≡ 0
count_none p [] h = refl
count_none p (x ∷ xs) h = sum_by-cons (λ y. cond (p y) 1 0) x xs ∙ ap (λ n. cond (p x) 1 0 + n) (count_none p xs (λ b y at is. h (suc b) y at is)) ∙ first (p x) refl
  where
    first : (t : Bool) → p x ≡ t → cond t 1 0 + 0 ≡ 0
    first true e = absurd (h 0 x refl e)
    first false e = refl

pub count_all : {A : Type 0} (xs : List A) → count_by (λ _. true) xs ≡ length xs
count_all [] = refl
count_all (x ∷ xs) = sum_by-cons (λ y. 1) x xs ∙ ap (λ n. 1 + n) (count_all xs) ∙ one_more (length xs)

-- one passes, and before each that does none did
pub count_once : {A : Type 0} (p : A → Bool) (xs : List A) (a : ℕ) (x : A) → slice_get xs a ≡ Some x → p x ≡ true → ((b : ℕ) (y : A) → slice_get xs b ≡ Some y → p y ≡ true → list_any p (take b xs) ≡ false) → count_by p xs ≡ 1
count_once p [] a x at is once = absurd (none_some x at)
count_once p (y ∷ ys) zero x at is once =
    let here : p y ≡ true = ap p (same_some y x at) ∙ is in
    sum_by-cons (λ z. cond (p z) 1 0) y ys ∙ ap (λ n. cond (p y) 1 0 + n) (count_none p ys (λ b z there passes. true≢false (sym (ap (λ t. t || list_any p (take b ys)) here) ∙ once (suc b) z there passes))) ∙ ap (λ t. cond t 1 0 + 0) here
count_once p (y ∷ ys) (suc a) x at is once =
    let here : p y ≡ false = first (p y) refl in
    sum_by-cons (λ z. cond (p z) 1 0) y ys ∙ ap (λ t. cond t 1 0 + count_by p ys) here ∙ zero_more (count_by p ys) ∙ count_once p ys a x at is (λ b z there passes. ap (λ t. t || list_any p (take b ys)) (sym here) ∙ once (suc b) z there passes)
  where
    first : (t : Bool) → p y ≡ t → p y ≡ false
    first true e = absurd (true≢false (sym (ap (λ t. t || list_any p (take a ys)) e) ∙ once (suc a) x at is))
    first false e = e

-- the elements that pass, by a number below n that each of them has
count_by_number : {A : Type 0} (q : A → Bool) (f : A → ℕ) (n : ℕ) (xs : List A) → ((b : ℕ) (y : A) → slice_get xs b ≡ Some y → q y ≡ true → f y < n) → count_by q xs ≡ sum_to n (λ k. count_by (λ y. q y && eqb k (f y)) xs)
count_by_number q f n [] h = sym (sum_zero n (λ k. 0) (λ k _. refl))
count_by_number q f n (x ∷ xs) h =
    let flag : ℕ → ℕ = λ k. cond (q x && eqb k (f x)) 1 0 in
    let others : ℕ → ℕ = λ k. count_by (λ y. q y && eqb k (f y)) xs in
    sum_by-cons (λ y. cond (q y) 1 0) x xs
    ∙ ap (λ c. c + count_by q xs) (sym (sum_flag (q x) n (f x) (h 0 x refl)))
    ∙ ap (λ c. sum_to n flag + c) (count_by_number q f n xs (λ b y at. h (suc b) y at))
    ∙ sym (sum_plus n flag others)
    ∙ (λ j. sum_to n (λ k. sym (sum_by-cons (λ y. cond (q y && eqb k (f y)) 1 0) x xs) j))

times_one : (m : ℕ) → m * 1 ≡ m
times_one m = grind arith

-- Each element that passes has two numbers, one from 1 to n and one below m, and each two numbers are those of one of
-- them
pub count_pairs : {A : Type 0} (q : A → Bool) (f g : A → ℕ) (n m : ℕ) (xs : List A) → ((b : ℕ) (y : A) → slice_get xs b ≡ Some y → q y ≡ true → (0 < f y) × (f y < suc n) × (g y < m))
    → ((i k : ℕ) → 0 < i → i < suc n → k < m → count_by (λ y. (q y && eqb i (f y)) && eqb k (g y)) xs ≡ 1) → count_by q xs ≡ n * m
count_pairs q f g n m xs within once =
    let each : ℕ → ℕ = λ i. count_by (λ y. q y && eqb i (f y)) xs in
    count_by_number q f (suc n) xs (λ b y at is. (within b y at is).1)
    ∙ sum_behind n m each
    (count_none (λ y. q y && eqb 0 (f y)) xs (λ b y at is. let tests = both_true (q y) (eqb 0 (f y)) is in let same = eqb-true 0 (f y) tests.1 in let some = (within b y at tests.0).0 in omega arith))
    (λ i some below. count_by_number (λ y. q y && eqb i (f y)) g m xs (λ b y at is. (within b y at (both_true (q y) (eqb i (f y)) is).0).2)
    ∙ sum_all m 1 (λ k. count_by (λ y. (q y && eqb i (f y)) && eqb k (g y)) xs) (λ k under. once i k some below under) ∙ times_one m)
