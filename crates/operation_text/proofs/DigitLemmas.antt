-- The digits of numbers and of bytes.
use Rattle.std.proofs.Common.{◌≡◌, ℕ, zero, suc, ◌+◌, ◌*◌, ◌/◌, ◌%◌, ◌^◌, ◌<◌, ◌≤◌, Bool, true, List, [], ◌∷◌, ◌++◌, length, get_or, slice_index, refl, sym, ap, ◌∙◌, append_assoc, length-append, inl, inr, arith, drop, drop-cons}
use Rattle.std.specs.Prelude.{◌==◌, ◌&&◌, cond}
use Rattle.std.specs.Fmt.{decimal, digits, digits_onto, digit_glyph}
use Rattle.std.proofs.lemmas.Fmt.{decimal_digit, decimal_step, length-decimal-le}
use Rattle.std.proofs.lemmas.Bool.{and_parts, cases_lt, eqb-true, lt-ltb, ne_eqb, eq-eqb}
use Rattle.hex.specs.Hex.{encode_with, encode_upper, upper_digits}
use Rattle.operation_text.specs.Texts.{hexadecimal, octet_text}

-- ---- hexadecimal numbers, digit by digit

abbrev spell : ℕ → ℕ → List ℕ → List ℕ
spell k n acc = digits_onto k 16 true n acc

abbrev glyph : ℕ → ℕ
glyph n = digit_glyph true (n % 16)

spell_last : (k n : ℕ) (acc : List ℕ) → n < 16 → spell (suc k) n acc ≡ glyph n ∷ acc
spell_last k n acc h = ap (λ (t : Bool). cond t (glyph n ∷ acc) (spell k (n / 16) (glyph n ∷ acc))) (eq-eqb (n / 16) 0 (omega arith))

spell_next : (k n : ℕ) (acc : List ℕ) → 16 ≤ n → spell (suc k) n acc ≡ spell k (n / 16) (glyph n ∷ acc)
spell_next k n acc h = ap (λ (t : Bool). cond t (glyph n ∷ acc) (spell k (n / 16) (glyph n ∷ acc))) (ne_eqb (n / 16) 0 (λ e. omega arith))

spell-append : (k n : ℕ) (acc : List ℕ) → spell k n acc ≡ spell k n [] ++ acc
spell-append zero n acc = refl
spell-append (suc k) n acc = elim (cases_lt n 16) [
  | inl l ↦ spell_last k n acc l ∙ ap (λ (x : List ℕ). x ++ acc) (sym (spell_last k n [] l))
  | inr l ↦
      spell_next k n acc l ∙ spell-append k (n / 16) (glyph n ∷ acc) ∙ sym (append_assoc (spell k (n / 16) []) (glyph n ∷ []) acc)
      ∙ ap (λ (x : List ℕ). x ++ acc) (sym (spell_next k n [] l ∙ spell-append k (n / 16) (glyph n ∷ [])))
]

spell_enough : (j k n : ℕ) (acc : List ℕ) → n < 16 ^ suc j → n < 16 ^ suc k → spell (suc j) n acc ≡ spell (suc k) n acc
spell_enough zero k n acc p q = spell_last zero n acc (omega arith) ∙ sym (spell_last k n acc (omega arith))
spell_enough (suc j) zero n acc p q = spell_last (suc j) n acc (omega arith) ∙ sym (spell_last zero n acc (omega arith))
spell_enough (suc j) (suc k) n acc p q = elim (cases_lt n 16) [
  | inl l ↦ spell_last (suc j) n acc l ∙ sym (spell_last (suc k) n acc l)
  | inr l ↦ spell_next (suc j) n acc l ∙ spell_enough j k (n / 16) (glyph n ∷ acc) (omega arith) (omega arith) ∙ sym (spell_next (suc k) n acc l)
]

-- the digits, by places
spelled : (n : ℕ) → spell 64 n [] ≡ hexadecimal n
unfolding digits
spelled n = refl

pub hexadecimal_digit : (n : ℕ) → n < 16 → hexadecimal n ≡ digit_glyph true (n % 16) ∷ []
hexadecimal_digit n h = sym (spelled n) ∙ spell_last 63 n [] h

pub hexadecimal_step : (n : ℕ) → 16 ≤ n → n < 2 ^ 64 → hexadecimal n ≡ hexadecimal (n / 16) ++ digit_glyph true (n % 16) ∷ []
hexadecimal_step n h small =
    sym (spelled n) ∙ spell_next 63 n [] h ∙ spell_enough 62 63 (n / 16) (glyph n ∷ []) (omega arith) (omega arith)
    ∙ spell-append 64 (n / 16) (glyph n ∷ []) ∙ ap (λ (x : List ℕ). x ++ glyph n ∷ []) (spelled (n / 16))

-- as many digits as places
pub length-hexadecimal : (k n : ℕ) → n < 16 ^ suc k → n < 2 ^ 64 → length (hexadecimal n) ≤ suc k
length-hexadecimal zero n h small = rw (hexadecimal_digit n (omega arith)) (omega arith)
length-hexadecimal (suc k) n h small = elim (cases_lt n 16) [
  | inl l ↦ rw (hexadecimal_digit n l) (omega arith)
  | inr l ↦
      let more = length-hexadecimal k (n / 16) (omega arith) (omega arith) in
      rw (hexadecimal_step n l small) (omega (arith, length-append (hexadecimal (n / 16)) (digit_glyph true (n % 16) ∷ []), more))
]

pub hexadecimal-short : (n : ℕ) → n < 2 ^ 64 → length (hexadecimal n) ≤ 16
hexadecimal-short n h = length-hexadecimal 15 n (omega arith) h

-- ---- the digits of bytes

-- the test that the first n digits are these
abbrev are_glyphs : ℕ → Bool
are_glyphs zero = true
are_glyphs (suc n) = (slice_index upper_digits n == digit_glyph true n) && are_glyphs n

glyph-at : (n k : ℕ) → are_glyphs n ≡ true → k < n → slice_index upper_digits k ≡ digit_glyph true k
glyph-at zero k h lt = absurd (omega arith)
glyph-at (suc n) k h lt =
    let parts = and_parts (slice_index upper_digits n == digit_glyph true n) (are_glyphs n) h in
    elim (cases_lt k n) [
      | inl below ↦ glyph-at n k parts.1 below
      | inr top ↦
          let e : k ≡ n = omega arith in
          rw e (eqb-true (slice_index upper_digits n) (digit_glyph true n) parts.0)
    ]

pub glyph-is : (k : ℕ) → k < 16 → slice_index upper_digits k ≡ digit_glyph true k
glyph-is k lt = glyph-at 16 k refl lt

-- one byte more
pub encode-next : (bytes : List ℕ) (i : ℕ) → i < length bytes → get_or bytes i 0 < 256
    → encode_upper (drop i bytes) ≡ digit_glyph true (get_or bytes i 0 / 16) ∷ digit_glyph true (get_or bytes i 0 % 16) ∷ encode_upper (drop (i + 1) bytes)
unfolding encode_with
encode-next bytes i lt fits =
    let high = glyph-is (get_or bytes i 0 / 16) (omega arith) in
    let low = glyph-is (get_or bytes i 0 % 16) (omega arith) in
    let next : i + 1 ≡ suc i = omega arith in
    rw (next, drop-cons bytes i 0 lt, high, low) refl

pub ruleset short_rules = (hexadecimal-short)

-- a number of one digit
pub one_digit : (n : ℕ) → n < 10 → decimal n ≡ (48 + n) ∷ []
one_digit n lt = decimal_digit n lt

-- the digits of a byte
pub octet_is : (n : ℕ) → n < 256 → encode_upper (n ∷ []) ≡ octet_text n
unfolding encode_with
octet_is n lt = encode-next (n ∷ []) 0 (omega arith) lt

-- a number's digits, by bytes
pub hexadecimal_octet : (n : ℕ) → 16 ≤ n → n < 256 → hexadecimal n ≡ octet_text n
hexadecimal_octet n more less =
    hexadecimal_step n more (omega arith) ∙ ap (λ (t : List ℕ). t ++ digit_glyph true (n % 16) ∷ []) (hexadecimal_digit (n / 16) (omega arith))
    ∙ ap (λ (k : ℕ). digit_glyph true k ∷ digit_glyph true (n % 16) ∷ []) (omega arith)

-- a byte of one digit
pub hexadecimal_one : (n : ℕ) → n < 16 → hexadecimal n ≡ digit_glyph true n ∷ []
hexadecimal_one n h = hexadecimal_digit n h ∙ ap (λ (k : ℕ). digit_glyph true k ∷ []) (omega arith)

pub hexadecimal_octets : (n : ℕ) → 256 ≤ n → n < 2 ^ 64 → hexadecimal n ≡ hexadecimal (n / 256) ++ octet_text (n % 256)
hexadecimal_octets n more small =
    hexadecimal_step n (omega arith) small
    ∙ ap (λ (t : List ℕ). t ++ digit_glyph true (n % 16) ∷ []) (hexadecimal_step (n / 16) (omega arith) (omega arith))
    ∙ append_assoc (hexadecimal (n / 16 / 16)) (digit_glyph true (n / 16 % 16) ∷ []) (digit_glyph true (n % 16) ∷ [])
    ∙ ap (λ (t : List ℕ). hexadecimal (n / 16 / 16) ++ t) (ap (λ (k : ℕ). digit_glyph true k ∷ digit_glyph true (n % 16) ∷ []) (omega arith) ∙ ap (λ (k : ℕ). digit_glyph true (n % 256 / 16) ∷ digit_glyph true k ∷ []) (omega arith))
    ∙ ap (λ (k : ℕ). hexadecimal k ++ octet_text (n % 256)) (omega arith)

-- ---- decimal numbers, two digits at a time

abbrev pub two_digits : ℕ → List ℕ
two_digits n = (48 + n / 10) ∷ (48 + n % 10) ∷ []

glyph_below_ten : (k : ℕ) → k < 10 → digit_glyph true k ≡ 48 + k
glyph_below_ten k h = ap (λ (t : Bool). cond t (48 + k) (55 + k)) (lt-ltb k 10 h)

pub octet_of_two : (n : ℕ) → n < 100 → octet_text (n / 10 * 16 + n % 10) ≡ two_digits n
octet_of_two n h =
    let high : (n / 10 * 16 + n % 10) / 16 ≡ n / 10 = omega arith in
    let low : (n / 10 * 16 + n % 10) % 16 ≡ n % 10 = omega arith in
    ap (λ (k : ℕ). digit_glyph true k ∷ digit_glyph true ((n / 10 * 16 + n % 10) % 16) ∷ []) high
    ∙ ap (λ (k : ℕ). digit_glyph true (n / 10) ∷ digit_glyph true k ∷ []) low
    ∙ ap (λ (k : ℕ). k ∷ digit_glyph true (n % 10) ∷ []) (glyph_below_ten (n / 10) (omega arith))
    ∙ ap (λ (k : ℕ). (48 + n / 10) ∷ k ∷ []) (glyph_below_ten (n % 10) (omega arith))

pub decimal_two : (n : ℕ) → 10 ≤ n → n < 100 → decimal n ≡ two_digits n
decimal_two n more less =
    decimal_step n more (omega arith) ∙ ap (λ (t : List ℕ). t ++ (48 + n % 10) ∷ []) (decimal_digit (n / 10) (omega arith))

pub decimal_twos : (n : ℕ) → 100 ≤ n → n < 2 ^ 64 → decimal n ≡ decimal (n / 100) ++ two_digits (n % 100)
decimal_twos n more small =
    decimal_step n (omega arith) small
    ∙ ap (λ (t : List ℕ). t ++ (48 + n % 10) ∷ []) (decimal_step (n / 10) (omega arith) (omega arith))
    ∙ append_assoc (decimal (n / 10 / 10)) ((48 + n / 10 % 10) ∷ []) ((48 + n % 10) ∷ [])
    ∙ ap (λ (k : ℕ). decimal (n / 10 / 10) ++ (48 + k) ∷ (48 + n % 10) ∷ []) (omega arith)
    ∙ ap (λ (k : ℕ). decimal (n / 10 / 10) ++ (48 + n % 100 / 10) ∷ (48 + k) ∷ []) (omega arith)
    ∙ ap (λ (k : ℕ). decimal k ++ two_digits (n % 100)) (omega arith)

pub decimal-short : (n : ℕ) → n < 2 ^ 64 → length (decimal n) ≤ 20
decimal-short n h = length-decimal-le 20 n (omega arith) (omega arith) h

pub ruleset short_decimal = (decimal-short)
