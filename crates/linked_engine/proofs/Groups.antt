-- Digits in groups.
use Rattle.std.proofs.Common.{◌≡◌, ◌∙◌, ℕ, zero, suc, List, [], ◌∷◌, ◌++◌, ◌+◌, ◌-◌, ◌*◌, ◌/◌, ◌%◌, ◌≤◌, length, take, drop, slice_index, get_or, ap, refl, append_assoc, arith}
use Rattle.std.proofs.lemmas.Grind.{common_steps}
use Rattle.hex.specs.Hex.{encode_upper, encode_with, upper_digits}
use Rattle.hex_text.specs.Line.{spaced}

-- four bytes at most: one group
pub last_group : (bytes : List ℕ) → length bytes ≤ 4 → spaced (encode_upper bytes) ≡ encode_upper bytes
unfolding spaced encode_with
last_group [] h = refl
last_group (a ∷ []) h = refl
last_group (a ∷ b ∷ []) h = refl
last_group (a ∷ b ∷ c ∷ []) h = refl
last_group (a ∷ b ∷ c ∷ d ∷ []) h = refl
last_group (a ∷ b ∷ c ∷ d ∷ e ∷ rest) h = absurd (omega arith)

-- two digits a byte, and a space between each two groups
pub length_of_groups : (bytes : List ℕ) → length (spaced (encode_upper bytes)) ≤ 3 * length bytes
unfolding spaced encode_with
length_of_groups [] = omega arith
length_of_groups (a ∷ []) = omega arith
length_of_groups (a ∷ b ∷ []) = omega arith
length_of_groups (a ∷ b ∷ c ∷ []) = omega arith
length_of_groups (a ∷ b ∷ c ∷ d ∷ []) = omega arith
length_of_groups (a ∷ b ∷ c ∷ d ∷ e ∷ rest) = let i = length_of_groups (e ∷ rest) in omega arith

-- the line feed is the last byte
pub without_line_feed : (xs : List ℕ) → take (length (xs ++ 10 ∷ []) - 1) (xs ++ 10 ∷ []) ≡ xs
without_line_feed xs = grind (arith, common_steps)

one_more : (xs : List ℕ) → length (xs ++ 10 ∷ []) ≡ length xs + 1
one_more [] = refl
one_more (x ∷ xs) = let i = one_more xs in omega arith

pub length_of_line : (bytes line : List ℕ) → line ≡ spaced (encode_upper bytes) ++ 10 ∷ [] → length line ≤ 3 * length bytes + 1
length_of_line bytes line e =
    let groups = length_of_groups bytes in
    let all : length line ≡ length (spaced (encode_upper bytes)) + 1 = ap length e ∙ one_more (spaced (encode_upper bytes)) in
    omega arith

-- the digits of two bytes, one by one
pub two_pairs : (text between after first second bytes : List ℕ) → length bytes ≡ 2 → first ≡ encode_upper (get_or bytes 0 0 ∷ []) → second ≡ encode_upper (get_or bytes 1 0 ∷ [])
    → between ≡ text ++ first → after ≡ between ++ second → after ≡ text ++ encode_upper bytes
unfolding encode_with
two_pairs text between after first second [] len e f g h = absurd (omega (arith, len))
two_pairs text between after first second (high ∷ []) len e f g h = absurd (omega (arith, len))
two_pairs text between after first second (high ∷ low ∷ []) len e f g h =
    rw (h, g, e, f) (append_assoc text (encode_upper (high ∷ [])) (encode_upper (low ∷ [])))
two_pairs text between after first second (high ∷ low ∷ c ∷ rest) len e f g h = absurd (omega (arith, len))

-- the digits of some bytes, and of those behind them
pub digits_behind : (n : ℕ) (bytes : List ℕ) → encode_upper bytes ≡ encode_upper (take n bytes) ++ encode_upper (drop n bytes)
unfolding encode_with
digits_behind zero bytes = refl
digits_behind (suc n) [] = refl
digits_behind (suc n) (b ∷ rest) = ap (λ (digits : List ℕ). slice_index upper_digits (b / 16) ∷ slice_index upper_digits (b % 16) ∷ digits) (digits_behind n rest)

-- all that is left behind a place
left : (xs : List ℕ) (n : ℕ) → take (length xs - n) (drop n xs) ≡ drop n xs
left xs n = grind (arith, common_steps)

pub more_digits : (text between after bytes : List ℕ) → between ≡ text ++ encode_upper (take 4 bytes)
    → after ≡ between ++ encode_upper (take (length bytes - 4) (drop 4 bytes)) → after ≡ text ++ encode_upper bytes
more_digits text between after bytes e f =
    rw (f, e, left bytes 4, digits_behind 4 bytes) (append_assoc text (encode_upper (take 4 bytes)) (encode_upper (drop 4 bytes)))
