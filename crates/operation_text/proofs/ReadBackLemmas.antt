-- What is written is read back.
use Rattle.std.proofs.Common.{◌≡◌, ℕ, zero, suc, ◌+◌, ◌*◌, ◌/◌, ◌%◌, ◌^◌, ◌<◌, ◌≤◌, Bool, true, false, List, [], ◌∷◌, ◌++◌, length, get_or, refl, sym, ap, subst, ◌∙◌, length-append, inl, inr, arith, Some}
use Rattle.std.specs.Prelude.{◌==◌, nat_lt, nat_le, cond, ◌⊎◌}
use Rattle.std.specs.Char.{digit_value}
use Rattle.std.specs.List.{join_with_byte}
use Rattle.std.specs.Fmt.{digits, digits_onto, digit_glyph, decimal}
use Rattle.std.specs.Str.Parse.{AllDigits, IsNumeral, digits_value, digits_value_after}
use Rattle.std.proofs.lemmas.Fmt.{digits_is_IsNumeral, decimal_is_IsNumeral, first_decimal, decimal_digit}
use Rattle.std.proofs.lemmas.Bool.{cases_lt, cases_eq, ne_eqb, eq-eqb}
use Rattle.std.proofs.lemmas.Bool.Decides.{nat_tests}
use Rattle.std.proofs.Math.Nat.{mul-le-mul_left}
use Rattle.hex.specs.Hex.{encode_with, encode_upper, upper_digits, IsBytes}
use Rattle.hex.proofs.HexLemmas.{decode_of-encode_upper, length-encode_with}
use Rattle.operation_text.specs.Words.{words, is_space}
use Rattle.operation_text.specs.Numbers.{numeral, numeral_after, byte_string}
use Rattle.operation_text.specs.Texts.{hexadecimal}
use Rattle.operation_text.proofs.DigitLemmas.{hexadecimal_digit, hexadecimal_step, glyph-is}

-- ---- characters of words

-- neither a space nor a control character, and of ASCII
abbrev pub IsWordChar : ℕ → Type 0
IsWordChar c = (33 ≤ c) × (c ≤ 126)

abbrev pub IsWord : List ℕ → Type 0
IsWord [] = Unit {0}
IsWord (c ∷ cs) = IsWordChar c × IsWord cs

glyph-word : (upper : Bool) (d : ℕ) → d < 16 → IsWordChar (digit_glyph upper d)
glyph-word upper d small = by (nat_lt d 10) upper
  where
    by : (a b : Bool) → IsWordChar (cond a (48 + d) (cond b (55 + d) (87 + d)))
    by true b = (omega arith, omega arith)
    by false true = (omega arith, omega arith)
    by false false = (omega arith, omega arith)

onto-word : (k base : ℕ) (upper : Bool) (n : ℕ) (acc : List ℕ) → 2 ≤ base → base ≤ 16 → IsWord acc → IsWord (digits_onto k base upper n acc)
onto-word zero base upper n acc low high w = w
onto-word (suc k) base upper n acc low high w =
    let digit : n % base < 16 = omega arith in
    let more : IsWord (digit_glyph upper (n % base) ∷ acc) = (glyph-word upper (n % base) digit, w) in
    either (n / base == 0) _ _ more (onto-word k base upper (n / base) _ low high more)
  where
    either : (b : Bool) (xs ys : List ℕ) → IsWord xs → IsWord ys → IsWord (cond b xs ys)
    either true xs ys p q = p
    either false xs ys p q = q

digits-word : (base : ℕ) (upper : Bool) (n : ℕ) → 2 ≤ base → base ≤ 16 → IsWord (digits base upper n)
unfolding digits
digits-word base upper n low high = onto-word 64 base upper n [] low high tt

pub hexadecimal-word : (n : ℕ) → IsWord (hexadecimal n)
hexadecimal-word n = digits-word 16 true n (omega arith) (omega arith)

pub decimal-word : (n : ℕ) → IsWord (decimal n)
decimal-word n = digits-word 10 false n (omega arith) (omega arith)

pub encode-word : (bytes : List ℕ) → IsBytes bytes → IsWord (encode_upper bytes)
unfolding encode_with
encode-word [] h = tt
encode-word (b ∷ bytes) h =
    let fits : b < 256 = h 0 in
    let high = subst IsWordChar (sym (glyph-is (b / 16) (omega arith))) (glyph-word true (b / 16) (omega arith)) in
    let low = subst IsWordChar (sym (glyph-is (b % 16) (omega arith))) (glyph-word true (b % 16) (omega arith)) in
    (high, (low, encode-word bytes (λ k. h (suc k))))

-- ---- words with spaces between them

no_space : (c : ℕ) → IsWordChar c → is_space c ≡ false
no_space c h = ne_eqb c 32 (λ e. omega (arith, h.0, e))

abbrev pub AreWords : List (List ℕ) → Type 0
AreWords [] = Unit {0}
AreWords (w ∷ ws) = IsWord w × AreWords ws

pub word-first : (w line : List ℕ) → IsWord w → words (w ++ 32 ∷ line) ≡ w ∷ words line
word-first [] line h = refl
word-first (c ∷ w) line h = rw (no_space c h.0, word-first w line h.1) refl

pub word-alone : (w : List ℕ) → IsWord w → words w ≡ w ∷ []
word-alone [] h = refl
word-alone (c ∷ w) h = rw (no_space c h.0, word-alone w h.1) refl

pub words-joined : (w : List ℕ) (ws : List (List ℕ)) → IsWord w → AreWords ws → words (join_with_byte 32 (w ∷ ws)) ≡ w ∷ ws
words-joined w [] h hs = word-alone w h
words-joined w (v ∷ ws) h hs = word-first w (join_with_byte 32 (v ∷ ws)) h ∙ ap (λ (r : List (List ℕ)). w ∷ r) (words-joined v ws hs.0 hs.1)

-- ---- numbers

le_value_after : (radix n : ℕ) (ds : List ℕ) → 1 ≤ radix → n ≤ digits_value_after radix n ds
le_value_after radix n [] h = omega arith
le_value_after radix n (c ∷ cs) h =
    let more = le_value_after radix (n * radix + digit_value c) cs h in
    let times = mul-le-mul_left n h in
    omega (arith, more, times)

after-reads : (radix most n : ℕ) (ds : List ℕ) → 1 ≤ radix → AllDigits radix ds → digits_value_after radix n ds ≤ most
    → numeral_after radix most n ds ≡ Some (digits_value_after radix n ds)
after-reads radix most n [] h d le = refl
after-reads radix most n (c ∷ cs) h d le =
    let digit : nat_lt (digit_value c) radix ≡ true = let lt = d.0 in grind (arith, nat_tests) in
    let small : n * radix + digit_value c ≤ most = omega (arith, le_value_after radix (n * radix + digit_value c) cs h, le) in
    let fits : nat_le (n * radix + digit_value c) most ≡ true = grind (arith, nat_tests) in
    rw (digit, fits) (after-reads radix most (n * radix + digit_value c) cs h d.1 le)

numeral-reads : (radix most : ℕ) (ds : List ℕ) → 1 ≤ radix → IsNumeral radix ds → (get_or ds 0 0 ≡ 48 → length ds ≡ 1) → digits_value radix ds ≤ most
    → numeral radix most ds ≡ Some (digits_value radix ds)
numeral-reads radix most [] h d lead le = absurd (let z = d.0 in omega arith)
numeral-reads radix most (c ∷ cs) h d lead le = by (cases_eq c 48)
  where
    by : (c ≡ 48) ⊎ (c ≡ 48 → ⊥) → numeral radix most (c ∷ cs) ≡ Some (digits_value radix (c ∷ cs))
    by (inl e) =
        let one : (length cs == 0) ≡ true = eq-eqb (length cs) 0 (let l = lead e in omega arith) in
        rw (eq-eqb c 48 e, one) (after-reads radix most 0 (c ∷ cs) h d.1 le)
    by (inr ne) = rw (ne_eqb c 48 ne) (after-reads radix most 0 (c ∷ cs) h d.1 le)

-- the first digit is no zero
first_hexadecimal-by : (k n : ℕ) → n ≤ k → 0 < n → n < 2 ^ 64 → (0 < length (hexadecimal n)) × (48 < get_or (hexadecimal n) 0 0)
first_hexadecimal-by zero n le some small = absurd (omega arith)
first_hexadecimal-by (suc k) n le some small = elim (cases_lt n 16) [
  | inl l ↦
      let same : n % 16 ≡ n = omega arith in
      rw (hexadecimal_digit n l) (omega arith, rw same (first-glyph n some l))
  | inr l ↦
      let front = first_hexadecimal-by k (n / 16) (omega arith) (omega arith) (omega arith) in
      rw (hexadecimal_step n l small) (
        omega (arith, length-append (hexadecimal (n / 16)) (digit_glyph true (n % 16) ∷ [])),
        first-more (hexadecimal (n / 16)) (digit_glyph true (n % 16) ∷ []) front.0 front.1,
      )
]
  where
    first-glyph : (d : ℕ) → 0 < d → d < 16 → 48 < digit_glyph true d
    first-glyph d some small = grind (arith, nat_tests)

    first-more : (xs ys : List ℕ) → 0 < length xs → 48 < get_or xs 0 0 → 48 < get_or (xs ++ ys) 0 0
    first-more [] ys l h = absurd (omega arith)
    first-more (x ∷ xs) ys l h = h

pub hexadecimal-reads : (most n : ℕ) → n ≤ most → n < 2 ^ 64 → numeral 16 most (hexadecimal n) ≡ Some n
hexadecimal-reads most n le small =
    let is = digits_is_IsNumeral 16 true (omega arith) (omega arith) n (omega arith) in
    numeral-reads 16 most (hexadecimal n) (omega arith) is.0 (lead (cases_lt 0 n)) (omega (arith, is.1, le)) ∙ ap Some is.1
  where
    lead : (0 < n) ⊎ (n ≤ 0) → get_or (hexadecimal n) 0 0 ≡ 48 → length (hexadecimal n) ≡ 1
    lead (inl some) e = absurd (let f = first_hexadecimal-by n n (omega arith) some small in omega (arith, f.1, e))
    lead (inr none) e = ap length (hexadecimal_digit n (omega arith))

pub decimal-reads : (most n : ℕ) → n ≤ most → n < 2 ^ 64 → numeral 10 most (decimal n) ≡ Some n
decimal-reads most n le small =
    let is = decimal_is_IsNumeral n small in
    numeral-reads 10 most (decimal n) (omega arith) is.0 (lead (cases_lt 0 n)) (omega (arith, is.1, le)) ∙ ap Some is.1
  where
    lead : (0 < n) ⊎ (n ≤ 0) → get_or (decimal n) 0 0 ≡ 48 → length (decimal n) ≡ 1
    lead (inl some) e = absurd (let f = first_decimal n some small in omega (arith, f, e))
    lead (inr none) e = ap length (decimal_digit n (omega arith))

-- ---- bytes

pub bytes-read : (bytes : List ℕ) → 0 < length bytes → length bytes ≤ 128 → IsBytes bytes → byte_string (encode_upper bytes) ≡ Some bytes
bytes-read bytes some few are =
    let len = length-encode_with upper_digits bytes in
    let not_none : (length (encode_upper bytes) == 0) ≡ false = ne_eqb _ 0 (λ e. omega (arith, len, e)) in
    let not_long : nat_lt 256 (length (encode_upper bytes)) ≡ false = grind (arith, nat_tests) in
    rw (not_none, not_long, decode_of-encode_upper bytes are) refl
