-- Hexadecimal digits, written and read.
use Rattle.std.proofs.Common.{◌≡◌, ◌≢◌, ◌∙◌, ℕ, zero, suc, ◌+◌, ◌*◌, ◌/◌, ◌%◌, ◌<◌, ◌≤◌, Bool, true, false, List, [], ◌∷◌, ◌++◌, slice_index, refl, ap, inl, inr, arith, Option, Some, None, unwrap_or}
use Rattle.std.specs.Prelude.{◌==◌, ◌&&◌, nat_lt, cond}
use Rattle.std.specs.Fmt.{digits, digits_onto, digit_glyph}
use Rattle.std.proofs.lemmas.Bool.{and_parts, cases_lt, eqb-true, eq-eqb, ne_eqb}
use Rattle.std.proofs.lemmas.Bool.Decides.{nat_tests}
use Rattle.hex.specs.Hex.{upper_digits}
use Rattle.packet_text.specs.Texts.{id_text}
use Rattle.operation_text.specs.Texts.{octet_text, sequence_text, hexadecimal}
use Rattle.packet_text.specs.Forms as forms

-- ---- one digit

-- the test that the first n digits are these, and are read as their values
abbrev are_digits : ℕ → Bool
are_digits zero = true
are_digits (suc n) = (slice_index upper_digits n == digit_glyph true n) && ((unwrap_or (forms.digit (digit_glyph true n)) 16 == n) && are_digits n)

digit-at : (n k : ℕ) → are_digits n ≡ true → k < n → (slice_index upper_digits k ≡ digit_glyph true k) × (unwrap_or (forms.digit (digit_glyph true k)) 16 ≡ k)
digit-at zero k h lt = absurd (omega arith)
digit-at (suc n) k h lt =
    let parts = and_parts (slice_index upper_digits n == digit_glyph true n) ((unwrap_or (forms.digit (digit_glyph true n)) 16 == n) && are_digits n) h in
    let more = and_parts (unwrap_or (forms.digit (digit_glyph true n)) 16 == n) (are_digits n) parts.1 in
    elim (cases_lt k n) [
      | inl below ↦ digit-at n k more.1 below
      | inr top ↦
          let e : k ≡ n = omega arith in
          rw e (eqb-true (slice_index upper_digits n) (digit_glyph true n) parts.0, eqb-true (unwrap_or (forms.digit (digit_glyph true n)) 16) n more.0)
    ]

pub glyph-is : (k : ℕ) → k < 16 → slice_index upper_digits k ≡ digit_glyph true k
glyph-is k lt = (digit-at 16 k refl lt).0

some_of : (o : Option ℕ) (k : ℕ) → unwrap_or o 16 ≡ k → k < 16 → o ≡ Some k
some_of (Some w) k e lt = ap Some e
some_of None k e lt = absurd (omega arith)

-- a digit is read as its value
pub digit-reads : (k : ℕ) → k < 16 → forms.digit (digit_glyph true k) ≡ Some k
digit-reads k lt = some_of (forms.digit (digit_glyph true k)) k (digit-at 16 k refl lt).1 lt

-- a digit, and no letter behind F
pub glyph-range : (k : ℕ) → k < 16 → (48 ≤ digit_glyph true k) × (digit_glyph true k ≤ 70)
glyph-range k small = by (nat_lt k 10)
  where
    by : (a : Bool) → (48 ≤ cond a (48 + k) (cond true (55 + k) (87 + k))) × (cond a (48 + k) (cond true (55 + k) (87 + k)) ≤ 70)
    by true = (omega arith, omega arith)
    by false = (omega arith, omega arith)

-- ---- two, three and four digits

pub octet-reads : (n : ℕ) → n < 256 → forms.octet (octet_text n) ≡ Some n
octet-reads n lt =
    let e : n / 16 * 16 + n % 16 ≡ n = omega arith in
    rw (digit-reads (n / 16) (omega arith), digit-reads (n % 16) (omega arith)) (ap Some e)

pub sequence-reads : (n : ℕ) → n < 4096 → forms.sequence (sequence_text n) ≡ Some n
sequence-reads n lt =
    let e : n / 256 * 256 + n % 256 ≡ n = omega arith in
    rw (digit-reads (n / 256) (omega arith), octet-reads (n % 256) (omega arith)) (ap Some e)

pub id-reads : (n : ℕ) → n < 65536 → forms.id (id_text n) ≡ Some n
id-reads n lt =
    let e : n / 256 * 256 + n % 256 ≡ n = omega arith in
    rw (octet-reads (n / 256) (omega arith), octet-reads (n % 256) (omega arith)) (ap Some e)

-- ---- numbers of one or two digits, without a leading zero

whole : (n : ℕ) → hexadecimal n ≡ digits_onto 64 16 true n []
unfolding digits
whole n = refl

spell-last : (k n : ℕ) (acc : List ℕ) → n < 16 → digits_onto (suc k) 16 true n acc ≡ digit_glyph true (n % 16) ∷ acc
spell-last k n acc h = ap (λ (t : Bool). cond t (digit_glyph true (n % 16) ∷ acc) (digits_onto k 16 true (n / 16) (digit_glyph true (n % 16) ∷ acc))) (eq-eqb (n / 16) 0 (omega arith))

spell-next : (k n : ℕ) (acc : List ℕ) → 16 ≤ n → digits_onto (suc k) 16 true n acc ≡ digits_onto k 16 true (n / 16) (digit_glyph true (n % 16) ∷ acc)
spell-next k n acc h = ap (λ (t : Bool). cond t (digit_glyph true (n % 16) ∷ acc) (digits_onto k 16 true (n / 16) (digit_glyph true (n % 16) ∷ acc))) (ne_eqb (n / 16) 0 (λ e. omega arith))

pub one-digit : (n : ℕ) → n < 16 → hexadecimal n ≡ digit_glyph true n ∷ []
one-digit n h = whole n ∙ spell-last 63 n [] h ∙ ap (λ (k : ℕ). digit_glyph true k ∷ []) (omega arith)

pub two-digits : (n : ℕ) → 16 ≤ n → n < 256 → hexadecimal n ≡ octet_text n
two-digits n low high =
    whole n ∙ spell-next 63 n [] low ∙ spell-last 62 (n / 16) (digit_glyph true (n % 16) ∷ []) (omega arith)
    ∙ ap (λ (k : ℕ). digit_glyph true k ∷ digit_glyph true (n % 16) ∷ []) (omega arith)

-- a digit that isn't 0 is no 0
glyph-above : (k : ℕ) → 1 ≤ k → k < 16 → digit_glyph true k ≢ 48
glyph-above k some small = by (nat_lt k 10)
  where
    by : (a : Bool) → cond a (48 + k) (cond true (55 + k) (87 + k)) ≢ 48
    by true f = let e : 48 + k ≡ 48 = f in omega (arith, e, some)
    by false f = let e : 55 + k ≡ 48 = f in omega (arith, e)

-- nor is a digit a colon
pub glyph-colon : (k : ℕ) → k < 16 → digit_glyph true k ≢ 58
glyph-colon k small = by (nat_lt k 10) refl
  where
    by : (a : Bool) → nat_lt k 10 ≡ a → cond a (48 + k) (cond true (55 + k) (87 + k)) ≢ 58
    by true e f =
        let g : 48 + k ≡ 58 = f in
        let l : k < 10 = grind (arith, nat_tests) in
        omega (arith, g, l)
    by false e f =
        let g : 55 + k ≡ 58 = f in
        let l : 10 ≤ k = grind (arith, nat_tests) in
        omega (arith, g, l)

-- or a point
pub glyph-point : (k : ℕ) → k < 16 → digit_glyph true k ≢ 46
glyph-point k small f = let r = glyph-range k small in omega (arith, r.0, f)

at-most : (most n : ℕ) → n ≤ most → forms.at_most most n ≡ Some n
at-most most n le = let low : nat_lt most n ≡ false = grind (arith, nat_tests) in rw low refl

pub short-reads : (most n : ℕ) → n ≤ most → n < 256 → forms.short most (hexadecimal n) ≡ Some n
short-reads most n le lt = elim (cases_lt n 16) [
  | inl one ↦ rw (one-digit n one, digit-reads n one) (at-most most n le)
  | inr two ↦
      let first : (digit_glyph true (n / 16) == 48) ≡ false = ne_eqb (digit_glyph true (n / 16)) 48 (glyph-above (n / 16) (omega arith) (omega arith)) in
      rw (two-digits n two lt, first, octet-reads n lt) (at-most most n le)
]

-- up to a mark that is no digit
pub cut-reads : (mark n : ℕ) (rest : List ℕ) → n < 256 → ((k : ℕ) → k < 16 → digit_glyph true k ≢ mark) → forms.cut_at mark (hexadecimal n ++ mark ∷ rest) ≡ Some (hexadecimal n, rest)
cut-reads mark n rest lt other = elim (cases_lt n 16) [
  | inl one ↦ rw (one-digit n one, eq-eqb mark mark refl) refl
  | inr two ↦ rw (two-digits n two lt, ne_eqb (digit_glyph true (n % 16)) mark (other (n % 16) (omega arith)), eq-eqb mark mark refl) refl
]
