-- Numbers and bytes in a line.
use Rattle.std.specs.Prelude.{ℕ, ◌+◌, ◌*◌, ◌==◌, ◌&&◌, ◌||◌, not, nat_lt, nat_le, if◌then◌else◌, List, [], ◌∷◌, length, Option, Some, None, Result, Ok, Err}
use Rattle.std.specs.Char.{digit_value}
use Rattle.byteorder.specs.Endian.{little_number}
use Rattle.hex.specs.Hex.{decode_of}
use Rattle.hex.specs.declared.error.FromHexError.{FromHexError}
use Rattle.tlp_core.specs.declared.operation.Width.{Width}
use Rattle.tlp_core.specs.declared.operation.Width.TheVariants as widths

-- digits behind those of n, as long as the number is at most `most`
abbrev pub numeral_after : ℕ → ℕ → ℕ → List ℕ → Option ℕ
numeral_after radix most n [] = Some n
numeral_after radix most n (c ∷ cs) =
    if nat_lt (digit_value c) radix && nat_le (n * radix + digit_value c) most then numeral_after radix most (n * radix + digit_value c) cs else None

-- a number of at most `most`, without leading zeros or a sign; letters of either case
abbrev pub numeral : ℕ → ℕ → List ℕ → Option ℕ
numeral radix most [] = None
numeral radix most (c ∷ cs) =
    if (c == 48) && not (length cs == 0) then None else numeral_after radix most 0 (c ∷ cs)

abbrev pub decoded : Result (List ℕ) FromHexError → Option (List ℕ)
decoded (Ok bytes) = Some bytes
decoded (Err e) = None

-- two digits a byte, 1 to 128 bytes
abbrev pub byte_string : List ℕ → Option (List ℕ)
byte_string w = if (length w == 0) || nat_lt 256 (length w) then None else decoded (decode_of w)

-- the width is the number of bytes, which stand in memory order
abbrev pub operand_of : List ℕ → Option (Width × ℕ)
operand_of bytes =
    if length bytes == 4 then Some (widths.Four, little_number 4 bytes)
    else (if length bytes == 8 then Some (widths.Eight, little_number 8 bytes)
    else (if length bytes == 16 then Some (widths.Sixteen, little_number 16 bytes) else None))
