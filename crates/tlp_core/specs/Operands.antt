-- The bytes of an operand.
use Rattle.std.specs.Prelude.{ℕ, ◌≡◌, ◌⊎◌, List, length}
use Rattle.byteorder.specs.Endian.{little_number}

-- the number that an operand's bytes spell
abbrev pub number_of : List ℕ → ℕ
number_of bytes = little_number (length bytes) bytes

-- an operand has 4, 8 or 16 bytes
abbrev pub IsOperand : List ℕ → Type 0
IsOperand bytes = (length bytes ≡ 4) ⊎ (length bytes ≡ 8) ⊎ (length bytes ≡ 16)
