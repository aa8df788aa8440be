-- What the values of options write that say which endpoint is made.
use Rattle.std.specs.Prelude.{◌≡◌, ◌+◌, ◌*◌, ◌==◌, ◌&&◌, if◌then◌else◌, bytes_eq, codes, List, [], ◌∷◌, ℕ, length, take, drop, slice_index, Option, Some, None, Result, Ok, Err}
use Rattle.hex.specs.Hex.{decode_of}
use Rattle.hex.specs.declared.error.FromHexError.{FromHexError}

-- the bytes of a memory, a power of two
abbrev pub size : List ℕ → Option ℕ
size text =
    if bytes_eq text (codes "4096") then Some 4096
    else if bytes_eq text (codes "8192") then Some 8192
    else if bytes_eq text (codes "16384") then Some 16384
    else if bytes_eq text (codes "32768") then Some 32768
    else if bytes_eq text (codes "65536") then Some 65536
    else if bytes_eq text (codes "131072") then Some 131072
    else if bytes_eq text (codes "262144") then Some 262144
    else if bytes_eq text (codes "524288") then Some 524288
    else if bytes_eq text (codes "1048576") then Some 1048576
    else None

-- 4096 where no value is given
abbrev pub WritesSize : Option (List ℕ) → ℕ → Type 0
WritesSize None n = n ≡ 4096
WritesSize (Some text) n = size text ≡ Some n

-- the number of two bytes, the high one first
abbrev pub number : Result (List ℕ) FromHexError → Option ℕ
number (Ok (a ∷ b ∷ [])) = Some (a * 256 + b)
number _ = None

abbrev pub both : Option ℕ → Option ℕ → Option (ℕ × ℕ)
both (Some a) (Some b) = Some (a, b)
both _ _ = None

-- Vendor ID and Device ID: four hexadecimal digits each, with a colon between
abbrev pub ids : List ℕ → Option (ℕ × ℕ)
ids text =
    if (length text == 9) && (slice_index text 4 == 58) then both (number (decode_of (take 4 text))) (number (decode_of (drop 5 text)))
    else None

-- 1234:7C1E where no value is given
abbrev pub WritesId : Option (List ℕ) → ℕ × ℕ → Type 0
WritesId None id = id ≡ (0x1234, 0x7C1E)
WritesId (Some text) id = ids text ≡ Some id
