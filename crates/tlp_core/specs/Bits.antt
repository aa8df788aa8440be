-- Bits of a byte, numbered from 7, the most significant, to 0.
use Rattle.std.specs.Prelude.{ℕ, ◌<◌, ◌/◌, ◌%◌, ◌^◌, Bool, ◌==◌, List, slice_index}

-- the numbers of the list are bytes
abbrev pub IsBytes : List ℕ → Type 0
IsBytes b = (i : ℕ) → slice_index b i < 256

-- the number in count bits of byte k, the lowest of them bit low
abbrev pub bits : List ℕ → ℕ → ℕ → ℕ → ℕ
bits bytes k low count = slice_index bytes k / 2 ^ low % 2 ^ count

-- bit b of byte k is 1
abbrev pub has_bit : List ℕ → ℕ → ℕ → Bool
has_bit bytes k b = bits bytes k b 1 == 1
