-- Laws of the texts.
use Rattle.std.proofs.Common.{◌≡◌, ℕ, ◌/◌, List, [], ◌∷◌, ◌++◌, ◌+◌, ◌<◌, ◌≤◌, length, take, drop, refl, sym, ◌∙◌, append_assoc, length-append, arith}
use Rattle.hex.specs.Hex.{encode_with, encode_upper, upper_digits, decode_of, decode_sized}
use Rattle.hex.proofs.HexLemmas.{length-encode_with}
use Rattle.hex_text.specs.Line.{spaced}

-- eight digits at most: one group
pub spaced-last : (xs : List ℕ) → length xs ≤ 8 → spaced xs ≡ xs
unfolding spaced
spaced-last [] h = refl
spaced-last (a ∷ []) h = refl
spaced-last (a ∷ b ∷ []) h = refl
spaced-last (a ∷ b ∷ c ∷ []) h = refl
spaced-last (a ∷ b ∷ c ∷ d ∷ []) h = refl
spaced-last (a ∷ b ∷ c ∷ d ∷ e ∷ []) h = refl
spaced-last (a ∷ b ∷ c ∷ d ∷ e ∷ f ∷ []) h = refl
spaced-last (a ∷ b ∷ c ∷ d ∷ e ∷ f ∷ g ∷ []) h = refl
spaced-last (a ∷ b ∷ c ∷ d ∷ e ∷ f ∷ g ∷ h ∷ []) lt = refl
spaced-last (a ∷ b ∷ c ∷ d ∷ e ∷ f ∷ g ∷ h ∷ i ∷ rest) lt = absurd (omega arith)

-- more than four bytes: the digits of four, a space, and the groups of the rest
pub spaced-encode_more : (bytes : List ℕ) → 4 < length bytes
    → spaced (encode_upper bytes) ≡ encode_upper (take 4 bytes) ++ 32 ∷ spaced (encode_upper (drop 4 bytes))
unfolding spaced encode_with
spaced-encode_more [] h = absurd (omega arith)
spaced-encode_more (a ∷ []) h = absurd (omega arith)
spaced-encode_more (a ∷ b ∷ []) h = absurd (omega arith)
spaced-encode_more (a ∷ b ∷ c ∷ []) h = absurd (omega arith)
spaced-encode_more (a ∷ b ∷ c ∷ d ∷ []) h = absurd (omega arith)
spaced-encode_more (a ∷ b ∷ c ∷ d ∷ e ∷ rest) h = refl

-- four bytes at most: one group
pub spaced-encode_last : (bytes : List ℕ) → length bytes ≤ 4 → spaced (encode_upper bytes) ≡ encode_upper bytes
spaced-encode_last bytes h = spaced-last (encode_upper bytes) (omega (arith, length-encode_with upper_digits bytes))

-- the digits of the first four bytes of two parts, a space, and the groups of the rest
pub spaced-front : (front bytes : List ℕ) → 4 ≤ length front → 4 < length front + length bytes
    → spaced (encode_upper (front ++ bytes)) ≡ (encode_upper (take 4 front) ++ 32 ∷ []) ++ spaced (encode_upper (drop 4 front ++ bytes))
spaced-front [] bytes le lt = absurd (omega arith)
spaced-front (a ∷ []) bytes le lt = absurd (omega arith)
spaced-front (a ∷ b ∷ []) bytes le lt = absurd (omega arith)
spaced-front (a ∷ b ∷ c ∷ []) bytes le lt = absurd (omega arith)
spaced-front (a ∷ b ∷ c ∷ d ∷ front) bytes le lt =
    spaced-encode_more (a ∷ b ∷ c ∷ d ∷ (front ++ bytes)) (omega (arith, length-append front bytes))
    ∙ sym (append_assoc (encode_upper (a ∷ b ∷ c ∷ d ∷ [])) (32 ∷ []) (spaced (encode_upper (front ++ bytes))))

-- decoding into half as many bytes is decoding
pub decode_sized-half : (text : List ℕ) → decode_sized text (length text / 2) ≡ decode_of text
decode_sized-half text = grind arith

pub ruleset text_rules = (spaced-last, decode_sized-half)
