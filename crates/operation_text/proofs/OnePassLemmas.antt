-- A number that is read digit by digit from a line's front.
use Rattle.std.proofs.Common.{◌≡◌, ◌≢◌, ◌∙◌, ℕ, suc, ◌+◌, ◌*◌, ◌^◌, ◌<◌, ◌≤◌, Bool, true, false, List, [], ◌∷◌, ◌++◌, length, take, get_or, refl, sym, ap, Some, None, inl, inr, arith, add-one}
use Rattle.std.specs.Prelude.{◌⊎◌, ◌==◌, ◌&&◌, not, nat_lt, nat_le, cond}
use Rattle.std.specs.Char.{digit_value}
use Rattle.std.proofs.Math.Seq.{take-suc}
use Rattle.std.proofs.lemmas.List.{get_or-take, length-take-le}
use Rattle.std.proofs.lemmas.Bool.{cases_Bool, cases_lt, ne_eqb}
use Rattle.std.proofs.lemmas.Bool.Decides.{nat_tests}
use Rattle.std.proofs.lemmas.Nat.{mul-le}
use Rattle.std.proofs.Math.Nat.{pow-suc, pow-le-pow_right}
use Rattle.operation_text.specs.Words.{words, first_field, is_space}
use Rattle.operation_text.specs.Numbers.{numeral, numeral_after}

-- both tests of a digit
digit-passes : (v radix n most : ℕ) → v < radix → n ≤ most → (nat_lt v radix && nat_le n most) ≡ true
digit-passes v radix n most lt le = grind (arith, nat_tests)

one-more : (radix most m n v c : ℕ) (cs : List ℕ) → digit_value c ≡ v → numeral_after radix most m cs ≡ Some n → v < radix → n * radix + v ≤ most
    → numeral_after radix most m (cs ++ c ∷ []) ≡ Some (n * radix + v)
one-more radix most m n v c [] is h lt le =
    let e : m ≡ n = cc h in
    rw (is, e, digit-passes v radix (n * radix + v) most lt le) refl
one-more radix most m n v c (d ∷ cs) is h lt le = elim (cases_Bool (nat_lt (digit_value d) radix && nat_le (m * radix + digit_value d) most)) [
  | inl hit ↦ rw hit (one-more radix most (m * radix + digit_value d) n v c cs is (rw hit at h) lt le)
  | inr miss ↦ absurd (let k = rw miss at h in cc k)
]

-- the digits with one more
pub next-digit : (radix most n v at : ℕ) (line : List ℕ) → at < length line → digit_value (get_or line at 0) ≡ v → numeral_after radix most 0 (take at line) ≡ Some n
    → v < radix → n * radix + v ≤ most → numeral_after radix most 0 (take (at + 1) line) ≡ Some (n * radix + v)
next-digit radix most n v at line inside is h lt le =
    let next : at + 1 ≡ suc at = omega arith in
    rw (next, take-suc line at 0 inside) (one-more radix most 0 n v (get_or line at 0) (take at line) is h lt le)

-- no number shrinks by a digit
pub grows : (radix n v : ℕ) → 2 ≤ radix → n ≤ n * radix + v
grows radix n v low = let m = mul-le n 1 n radix (omega arith) (omega arith) in omega arith

-- with a digit more the number is still below what so many digits can write
pub grows-below : (radix n v k : ℕ) → radix ≤ 16 → v < radix → n < 16 ^ k → n * radix + v < 16 ^ (k + 1)
grows-below radix n v k high lt small =
    let m = mul-le n radix n 16 (omega arith) high in
    let next : 16 ^ (k + 1) ≡ 16 ^ k * 16 = ap (λ (i : ℕ). 16 ^ i) (add-one k) ∙ pow-suc 16 k in
    rw next (omega (arith, m, lt, high, small))

-- a number of at most 15 digits has 60 bits
few-digits : (n k : ℕ) → k ≤ 15 → n < 16 ^ k → n < 2 ^ 60
few-digits n k few small =
    let m : 16 ^ k ≤ 16 ^ 15 = pow-le-pow_right (omega arith) few in
    omega (arith, m, small)

-- a digit more fits
pub product-fits : (radix n k : ℕ) → radix ≤ 16 → k ≤ 15 → n < 16 ^ k → n * radix < 2 ^ 64
product-fits radix n k high few small =
    let m = mul-le n radix n 16 (omega arith) high in
    let bits = few-digits n k few small in
    omega arith

pub digit-fits : (radix n v k : ℕ) → radix ≤ 16 → v < radix → k ≤ 15 → n < 16 ^ k → n * radix + v < 2 ^ 64
digit-fits radix n v k high lt few small =
    let m = mul-le n radix n 16 (omega arith) high in
    let bits = few-digits n k few small in
    omega arith

-- no digit is a space
not-space : (c v : ℕ) → digit_value c ≡ v → v < 16 → is_space c ≡ false
not-space c v is lt = ne_eqb c 32 (λ e. let k : 36 ≡ v = sym (ap (λ (d : ℕ). digit_value d) e) ∙ is in omega (arith, k, lt))

pub none-more : (line : List ℕ) (at v : ℕ) → ((i : ℕ) → i < at → is_space (get_or line i 0) ≡ false) → digit_value (get_or line at 0) ≡ v → v < 16
    → (i : ℕ) → i < at + 1 → is_space (get_or line i 0) ≡ false
none-more line at v none is lt i le = elim (cases_lt i at) [
  | inl before ↦ none i before
  | inr here ↦ let e : i ≡ at = omega arith in rw e (not-space (get_or line at 0) v is lt)
]

no-zero : (c : ℕ) (cs : List ℕ) → (suc (length cs) ≡ 1) ⊎ (c ≢ 48) → ((c == 48) && not (length cs == 0)) ≡ false
no-zero c cs (inr other) = rw (ne_eqb c 48 other) refl
no-zero c [] (inl one) = both (c == 48)
  where
    both : (t : Bool) → (t && false) ≡ false
    both true = refl
    both false = refl
no-zero c (d ∷ cs) (inl one) = absurd (omega arith)

-- a word without a leading zero
numeral-is : (radix most : ℕ) (w : List ℕ) → 0 < length w → (length w ≡ 1) ⊎ (get_or w 0 0 ≢ 48) → numeral radix most w ≡ numeral_after radix most 0 w
numeral-is radix most [] some h = absurd (omega arith)
numeral-is radix most (c ∷ cs) some h = ap (λ (t : Bool). cond t None (numeral_after radix most 0 (c ∷ cs))) (no-zero c cs h)

-- the field that the digits are
pub field-is : (radix most n at : ℕ) (line : List ℕ) (rest : List (List ℕ)) → words line ≡ take at line ∷ rest → 0 < at → at ≤ length line → (at ≡ 1) ⊎ (get_or line 0 0 ≢ 48)
    → numeral_after radix most 0 (take at line) ≡ Some n → first_field (numeral radix most) (words line) ≡ Some (n, rest)
field-is radix most n at line rest split some inside first h =
    let len : length (take at line) ≡ at = length-take-le at line inside in
    let head : get_or (take at line) 0 0 ≡ get_or line 0 0 = get_or-take at line 0 0 some in
    let start : (length (take at line) ≡ 1) ⊎ (get_or (take at line) 0 0 ≢ 48) = rw (len, head) first in
    rw (split, numeral-is radix most (take at line) (omega (arith, len)) start, h) refl
