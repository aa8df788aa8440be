-- Laws of digits, one by one.
use Rattle.std.proofs.Common.{◌≡◌, ◌≢◌, ℕ, zero, suc, ◌+◌, ◌*◌, ◌/◌, ◌%◌, ◌<◌, ◌≤◌, ◌==◌, Bool, true, ◌&&◌, List, [], ◌∷◌, ◌++◌, length, take, drop, slice_index, Option, Some, None, unwrap_or, Result, Ok, Err, refl, ap, subst, ◌∙◌, arith, inl, inr, add-zero}
use Rattle.std.specs.Prelude.{IsErr, nat_lt}
use Rattle.std.specs.Str.{IsAscii}
use Rattle.std.proofs.lemmas.Bool.Decides.{nat_tests}
use Rattle.std.proofs.lemmas.Bool.{and_parts, cases_lt, eqb-true}
use Rattle.std.specs.Option.{option_map_or}
use Rattle.std.specs.Int.{bytes_low_first}
use Rattle.hex.specs.Hex.{encode_with, encode_upper, upper_digits, hex_digit_value, digit_or_error, value_at, pair_value, ◌>>=◌}
use Rattle.hex.specs.declared.error.FromHexError.{FromHexError}
use Rattle.hex_text.specs.declared.tables.TheConstants.{ADDED, PAIRS}

-- ---- tables

hex_digit_value-small : (c v : ℕ) → hex_digit_value c ≡ Some v → v < 16
hex_digit_value-small c v h = grind (arith)

-- what a digit adds where it counts w times its value
abbrev weighted : ℕ → Option ℕ → ℕ
weighted w o = option_map_or (λ v. w * v) o 131072

-- the test that the table has that of the first n bytes from place o on
abbrev has_digits : List ℕ → ℕ → ℕ → ℕ → Bool
has_digits t o w zero = true
has_digits t o w (suc n) = (slice_index t (o + n) == weighted w (hex_digit_value n)) && has_digits t o w n

digit-below : (t : List ℕ) (o w n k : ℕ) → has_digits t o w n ≡ true → k < n → slice_index t (o + k) ≡ weighted w (hex_digit_value k)
digit-below t o w zero k h lt = absurd (omega arith)
digit-below t o w (suc n) k h lt =
    let parts = and_parts (slice_index t (o + n) == weighted w (hex_digit_value n)) (has_digits t o w n) h in
    elim (cases_lt k n) [
      | inl below ↦ digit-below t o w n k parts.1 below
      | inr top ↦
          let e : k ≡ n = omega arith in
          rw e (eqb-true (slice_index t (o + n)) (weighted w (hex_digit_value n)) parts.0)
    ]

most : (w : ℕ) (o : Option ℕ) → w ≤ 4096 → ((v : ℕ) → o ≡ Some v → v < 16) → weighted w o ≤ 131072
most w (Some v) le small = let lt = small v refl in product w v le lt
  where
    product : (w v : ℕ) → w ≤ 4096 → v < 16 → w * v ≤ 131072
    product w v le lt = grind (arith)
most w None le small = omega arith

table-at : (t : List ℕ) (o w k : ℕ) → has_digits t o w 256 ≡ true → w ≤ 4096 → k < 256
    → (slice_index t (o + k) ≡ weighted w (hex_digit_value k)) × (slice_index t (o + k) ≤ 131072)
table-at t o w k h le lt =
    let e = digit-below t o w 256 k h lt in
    let m = most w (hex_digit_value k) le (hex_digit_value-small k) in
    (e, omega (arith, e, m))

pub first_high-at : (k : ℕ) → k < 256 → (slice_index ADDED k ≡ weighted 16 (hex_digit_value k)) × (slice_index ADDED k ≤ 131072)
first_high-at k lt =
    let e : 0 + k ≡ k = omega arith in
    subst (λ (i : ℕ). (slice_index ADDED i ≡ weighted 16 (hex_digit_value k)) × (slice_index ADDED i ≤ 131072)) e (table-at ADDED 0 16 k refl (omega arith) lt)

pub first_low-at : (k : ℕ) → k < 256 → (slice_index ADDED (256 + k) ≡ weighted 1 (hex_digit_value k)) × (slice_index ADDED (256 + k) ≤ 131072)
first_low-at k lt = table-at ADDED 256 1 k refl (omega arith) lt

pub second_high-at : (k : ℕ) → k < 256 → (slice_index ADDED (512 + k) ≡ weighted 4096 (hex_digit_value k)) × (slice_index ADDED (512 + k) ≤ 131072)
second_high-at k lt = table-at ADDED 512 4096 k refl (omega arith) lt

pub second_low-at : (k : ℕ) → k < 256 → (slice_index ADDED (768 + k) ≡ weighted 256 (hex_digit_value k)) × (slice_index ADDED (768 + k) ≤ 131072)
second_low-at k lt = table-at ADDED 768 256 k refl (omega arith) lt

-- the test that the table has the digits of the bytes below n
abbrev has_pairs : ℕ → Bool
has_pairs zero = true
has_pairs (suc n) = ((slice_index PAIRS n % 256 == slice_index upper_digits (n / 16)) && (slice_index PAIRS n / 256 % 256 == slice_index upper_digits (n % 16))) && has_pairs n

pair-below : (n k : ℕ) → has_pairs n ≡ true → k < n → (slice_index PAIRS k % 256 ≡ slice_index upper_digits (k / 16)) × (slice_index PAIRS k / 256 % 256 ≡ slice_index upper_digits (k % 16))
pair-below zero k h lt = absurd (omega arith)
pair-below (suc n) k h lt =
    let parts = and_parts ((slice_index PAIRS n % 256 == slice_index upper_digits (n / 16)) && (slice_index PAIRS n / 256 % 256 == slice_index upper_digits (n % 16))) (has_pairs n) h in
    elim (cases_lt k n) [
      | inl below ↦ pair-below n k parts.1 below
      | inr top ↦
          let e : k ≡ n = omega arith in
          let both = and_parts (slice_index PAIRS n % 256 == slice_index upper_digits (n / 16)) (slice_index PAIRS n / 256 % 256 == slice_index upper_digits (n % 16)) parts.0 in
          rw e (eqb-true (slice_index PAIRS n % 256) (slice_index upper_digits (n / 16)) both.0, eqb-true (slice_index PAIRS n / 256 % 256) (slice_index upper_digits (n % 16)) both.1)
    ]

-- the digits of a byte are the bytes of its entry
pub pair-at : (k : ℕ) → k < 256 → bytes_low_first 0 2 (slice_index PAIRS k) ≡ encode_upper (k ∷ [])
unfolding encode_with
pair-at k lt =
    let parts = pair-below 256 k refl lt in
    rw (parts.0, parts.1) refl

-- the test that a text has the digits of the bytes from n on
abbrev has_text : List ℕ → ℕ → Bool
has_text [] n = n == 256
has_text (a ∷ []) n = n == 256
has_text (a ∷ b ∷ text) n = ((a == slice_index upper_digits (n / 16)) && (b == slice_index upper_digits (n % 16))) && has_text text (suc n)

-- the digits of the byte n + k stand at place 2 k
text-at : (text : List ℕ) (n k : ℕ) → has_text text n ≡ true → n + k < 256 → take 2 (drop (2 * k) text) ≡ encode_upper ((n + k) ∷ [])
unfolding encode_with
text-at [] n k h lt = let e = eqb-true n 256 h in absurd (omega arith)
text-at (a ∷ []) n k h lt = let e = eqb-true n 256 h in absurd (omega arith)
text-at (a ∷ b ∷ text) n zero h lt =
    let parts = and_parts ((a == slice_index upper_digits (n / 16)) && (b == slice_index upper_digits (n % 16))) (has_text text (suc n)) h in
    let both = and_parts (a == slice_index upper_digits (n / 16)) (b == slice_index upper_digits (n % 16)) parts.0 in
    rw (add-zero n, eqb-true a (slice_index upper_digits (n / 16)) both.0, eqb-true b (slice_index upper_digits (n % 16)) both.1) refl
text-at (a ∷ b ∷ text) n (suc k) h lt =
    let parts = and_parts ((a == slice_index upper_digits (n / 16)) && (b == slice_index upper_digits (n % 16))) (has_text text (suc n)) h in
    let e : 2 * suc k ≡ suc (suc (2 * k)) = omega arith in
    let f : suc n + k ≡ n + suc k = omega arith in
    ap (λ (i : ℕ). take 2 (drop i (a ∷ b ∷ text))) e
    ∙ text-at text (suc n) k parts.1 (omega arith)
    ∙ ap (λ (i : ℕ). encode_upper (i ∷ [])) f

pub pairs-at : (text : List ℕ) → has_text text 0 ≡ true → (b : ℕ) → b < 256 → take 2 (drop (2 * b) text) ≡ encode_upper (b ∷ [])
pairs-at text h b lt =
    let e : 0 + b ≡ b = omega arith in
    text-at text 0 b h (omega (arith, lt)) ∙ ap (λ (i : ℕ). encode_upper (i ∷ [])) e

-- the test that a text is of ASCII
abbrev has_ascii : List ℕ → Bool
has_ascii [] = true
has_ascii (a ∷ text) = nat_lt a 128 && has_ascii text

ascii-at : (text : List ℕ) → has_ascii text ≡ true → IsAscii text
ascii-at [] h i = omega arith
ascii-at (a ∷ text) h zero = let parts = and_parts (nat_lt a 128) (has_ascii text) h in below a parts.0
  where
    below : (a : ℕ) → nat_lt a 128 ≡ true → a < 128
    below a h = grind (arith, nat_tests)
ascii-at (a ∷ text) h (suc i) = let parts = and_parts (nat_lt a 128) (has_ascii text) h in ascii-at text parts.1 i

-- the same of a text of which the digits are known
pub ascii-of : (text : List ℕ) → ((b : ℕ) → b < 256 → take 2 (drop (2 * b) text) ≡ encode_upper (b ∷ [])) → has_ascii text ≡ true → IsAscii text
ascii-of text pairs h = ascii-at text h

-- ---- digits

some_of : (o : Option ℕ) (v : ℕ) → v ≡ unwrap_or o 16 → v < 16 → o ≡ Some v
some_of (Some w) v e lt = rw e refl
some_of None v e lt = absurd (omega arith)

none_of : (o : Option ℕ) (v : ℕ) → ((w : ℕ) → o ≡ Some w → w < 16) → v ≡ unwrap_or o 16 → 16 ≤ v → o ≡ None
none_of (Some w) v small e more = let lt = small w refl in absurd (omega arith)
none_of None v small e more = refl

-- two digits are a byte
pub pair_value-digits : (a b i high low : ℕ) → high ≡ unwrap_or (hex_digit_value a) 16 → low ≡ unwrap_or (hex_digit_value b) 16
    → high < 16 → low < 16 → pair_value a b i ≡ Ok (high * 16 + low)
pair_value-digits a b i high low ea eb la lb =
    let ha : value_at a i ≡ Ok high = ap (digit_or_error a i) (some_of (hex_digit_value a) high ea la) in
    let hb : value_at b (i + 1) ≡ Ok low = ap (digit_or_error b (i + 1)) (some_of (hex_digit_value b) low eb lb) in
    rw (ha, hb) refl

-- a digit adds its value
adds : (w : ℕ) (o : Option ℕ) (x : ℕ) → x ≡ weighted w o → x < 131072 → x ≡ w * unwrap_or o 16
adds w (Some v) x e lt = e
adds w None x e lt = absurd (omega (arith, e, lt))

counts : (w : ℕ) (o : Option ℕ) (x : ℕ) → ((v : ℕ) → o ≡ Some v → v < 16) → x ≡ weighted w o → x < 131072 → unwrap_or o 16 < 16
counts w (Some v) x small e lt = small v refl
counts w None x small e lt = absurd (omega (arith, e, lt))

-- four digits are two bytes
pub two_bytes-first : (a b c d i w x y z : ℕ) → w ≡ weighted 16 (hex_digit_value a) → x ≡ weighted 1 (hex_digit_value b) → y ≡ weighted 4096 (hex_digit_value c) → z ≡ weighted 256 (hex_digit_value d)
    → w + x + y + z < 131072 → pair_value a b i ≡ Ok ((w + x + y + z) % 256)
two_bytes-first a b c d i w x y z ew ex ey ez lt =
    let u = unwrap_or (hex_digit_value a) 16 in
    let v = unwrap_or (hex_digit_value b) 16 in
    let aw = adds 16 (hex_digit_value a) w ew (omega (arith, lt)) in
    let ax = adds 1 (hex_digit_value b) x ex (omega (arith, lt)) in
    let ay = adds 4096 (hex_digit_value c) y ey (omega (arith, lt)) in
    let az = adds 256 (hex_digit_value d) z ez (omega (arith, lt)) in
    let lu = counts 16 (hex_digit_value a) w (hex_digit_value-small a) ew (omega (arith, lt)) in
    let lv = counts 1 (hex_digit_value b) x (hex_digit_value-small b) ex (omega (arith, lt)) in
    pair_value-digits a b i u v refl refl lu lv ∙ ap Ok (omega (arith, aw, ax, ay, az, lu, lv))

pub two_bytes-second : (a b c d i w x y z : ℕ) → w ≡ weighted 16 (hex_digit_value a) → x ≡ weighted 1 (hex_digit_value b) → y ≡ weighted 4096 (hex_digit_value c) → z ≡ weighted 256 (hex_digit_value d)
    → w + x + y + z < 131072 → pair_value c d i ≡ Ok ((w + x + y + z) / 256)
two_bytes-second a b c d i w x y z ew ex ey ez lt =
    let u = unwrap_or (hex_digit_value c) 16 in
    let v = unwrap_or (hex_digit_value d) 16 in
    let aw = adds 16 (hex_digit_value a) w ew (omega (arith, lt)) in
    let ax = adds 1 (hex_digit_value b) x ex (omega (arith, lt)) in
    let ay = adds 4096 (hex_digit_value c) y ey (omega (arith, lt)) in
    let az = adds 256 (hex_digit_value d) z ez (omega (arith, lt)) in
    let la = counts 16 (hex_digit_value a) w (hex_digit_value-small a) ew (omega (arith, lt)) in
    let lb = counts 1 (hex_digit_value b) x (hex_digit_value-small b) ex (omega (arith, lt)) in
    let lu = counts 4096 (hex_digit_value c) y (hex_digit_value-small c) ey (omega (arith, lt)) in
    let lv = counts 256 (hex_digit_value d) z (hex_digit_value-small d) ez (omega (arith, lt)) in
    pair_value-digits c d i u v refl refl lu lv ∙ ap Ok (omega (arith, aw, ax, ay, az, la, lb, lu, lv))

-- and those are below 65536
pub four_digits-range : (a b c d w x y z : ℕ) → w ≡ weighted 16 (hex_digit_value a) → x ≡ weighted 1 (hex_digit_value b) → y ≡ weighted 4096 (hex_digit_value c) → z ≡ weighted 256 (hex_digit_value d)
    → w + x + y + z < 131072 → w + x + y + z < 65536
four_digits-range a b c d w x y z ew ex ey ez lt =
    let aw = adds 16 (hex_digit_value a) w ew (omega (arith, lt)) in
    let ax = adds 1 (hex_digit_value b) x ex (omega (arith, lt)) in
    let ay = adds 4096 (hex_digit_value c) y ey (omega (arith, lt)) in
    let az = adds 256 (hex_digit_value d) z ez (omega (arith, lt)) in
    let la = counts 16 (hex_digit_value a) w (hex_digit_value-small a) ew (omega (arith, lt)) in
    let lb = counts 1 (hex_digit_value b) x (hex_digit_value-small b) ex (omega (arith, lt)) in
    let lu = counts 4096 (hex_digit_value c) y (hex_digit_value-small c) ey (omega (arith, lt)) in
    let lv = counts 256 (hex_digit_value d) z (hex_digit_value-small d) ez (omega (arith, lt)) in
    omega (arith, aw, ax, ay, az, la, lb, lu, lv)

-- nothing comes of a step whose first part fails
then_err : (r : Result ℕ FromHexError) (f : ℕ → Result ℕ FromHexError) → ((v : ℕ) → IsErr (f v)) → IsErr (r >>= f)
then_err (Ok v) f h = h v
then_err (Err e) f h = refl

no_value : (c i v : ℕ) → v ≡ unwrap_or (hex_digit_value c) 16 → 16 ≤ v → (f : ℕ → Result ℕ FromHexError) → IsErr (value_at c i >>= f)
no_value c i v e more f =
    let h = ap (digit_or_error c i) (none_of (hex_digit_value c) v (hex_digit_value-small c) e more) in
    rw h refl

pub pair_value-no_high : (a b i high : ℕ) → high ≡ unwrap_or (hex_digit_value a) 16 → 16 ≤ high → IsErr (pair_value a b i)
pair_value-no_high a b i high e more = no_value a i high e more _

pub pair_value-no_low : (a b i low : ℕ) → low ≡ unwrap_or (hex_digit_value b) 16 → 16 ≤ low → IsErr (pair_value a b i)
pair_value-no_low a b i low e more = then_err (value_at a i) _ (λ h. no_value b (i + 1) low e more _)

-- no digit of a byte is a space
pub pair_value-no_space : (a b i v : ℕ) → pair_value a b i ≡ Ok v → (a ≢ 32) × (b ≢ 32)
pair_value-no_space a b i v h = (
  λ e.
      let bad = pair_value-no_high a b i 16 (rw e refl) (omega arith) in
      not_err (pair_value a b i) v h bad,
  λ e.
      let bad = pair_value-no_low a b i 16 (rw e refl) (omega arith) in
      not_err (pair_value a b i) v h bad,
)
  where
    not_err : (r : Result ℕ FromHexError) (v : ℕ) → r ≡ Ok v → IsErr r → ⊥
    not_err (Ok w) v h bad = cc bad
    not_err (Err e) v h bad = cc h

-- the digits of two lists of bytes
pub encode_with-append : (t xs ys : List ℕ) → encode_with t (xs ++ ys) ≡ encode_with t xs ++ encode_with t ys
unfolding encode_with
encode_with-append t [] ys = refl
encode_with-append t (x ∷ xs) ys = ap (λ (r : List ℕ). slice_index t (x / 16) ∷ slice_index t (x % 16) ∷ r) (encode_with-append t xs ys)

pub encode_with-one : (t : List ℕ) (x : ℕ) → encode_with t (x ∷ []) ≡ slice_index t (x / 16) ∷ slice_index t (x % 16) ∷ []
unfolding encode_with
encode_with-one t x = refl

-- the digits of four bytes are those of each
pub four_digits : (bytes p q r s : List ℕ) (behind : ℕ) → length bytes ≡ 4
    → p ≡ encode_upper (slice_index bytes 0 ∷ []) → q ≡ encode_upper (slice_index bytes 1 ∷ []) → r ≡ encode_upper (slice_index bytes 2 ∷ []) → s ≡ encode_upper (slice_index bytes 3 ∷ [])
    → slice_index p 0 ∷ slice_index p 1 ∷ slice_index q 0 ∷ slice_index q 1 ∷ slice_index r 0 ∷ slice_index r 1 ∷ slice_index s 0 ∷ slice_index s 1 ∷ behind ∷ [] ≡ encode_upper bytes ++ behind ∷ []
unfolding encode_with
four_digits [] p q r s behind len ep eq er es = absurd (omega (arith, len))
four_digits (a ∷ []) p q r s behind len ep eq er es = absurd (omega (arith, len))
four_digits (a ∷ b ∷ []) p q r s behind len ep eq er es = absurd (omega (arith, len))
four_digits (a ∷ b ∷ c ∷ []) p q r s behind len ep eq er es = absurd (omega (arith, len))
four_digits (a ∷ b ∷ c ∷ d ∷ []) p q r s behind len ep eq er es = rw (ep, eq, er, es) refl
four_digits (a ∷ b ∷ c ∷ d ∷ e ∷ rest) p q r s behind len ep eq er es = absurd (omega (arith, len))
