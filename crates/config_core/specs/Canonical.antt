-- The bytes that are written for a configuration request.
use Rattle.std.specs.Prelude.{ℕ, ◌≡◌, ◌+◌, ◌*◌, ◌/◌, ◌%◌, ◌^◌, ◌<◌, Bool, true, false, List, [], ◌∷◌, slice_index}
use Rattle.byteorder.specs.Endian.{little_bytes}
use Rattle.config_core.specs.declared.request.CfgRequest.{CfgRequest}

-- the numbers are those of bytes
abbrev pub IsBytes : List ℕ → Type 0
IsBytes b = (k : ℕ) → slice_index b k < 256

-- Fmt and Type, of a write or a read, for a device below a bridge or not
abbrev pub code_of : Bool → Bool → ℕ
code_of true true = 0x45
code_of true false = 0x44
code_of false true = 0x05
code_of false false = 0x04

-- what is written; a read has no such DW
abbrev pub data_of : Bool → ℕ → List ℕ
data_of true value = little_bytes 4 value
data_of false value = []

-- Length 1, and zeros in all bits that a request leaves 0 and in those that a reader ignores
abbrev pub canonical : CfgRequest → List ℕ
canonical r =
    code_of r.writes r.is_type_1 ∷ 0 ∷ 0 ∷ 1
    ∷ (r.requester / 256) ∷ (r.requester % 256) ∷ r.tag ∷ r.enables
    ∷ r.bus ∷ (r.device * 8 + r.function) ∷ (r.register / 256) ∷ (r.register % 256)
    ∷ data_of r.writes r.value

-- the value of a read is 0
abbrev pub is_written : Bool → ℕ → Type 0
is_written true value = value < 2 ^ 32
is_written false value = value ≡ 0

-- each number fits its field, and the register's offset is a multiple of 4
pub record FitsFields (r : CfgRequest) : Type 0 where
  pub requester : r.requester < 2 ^ 16
  pub tag : r.tag < 256
  pub bus : r.bus < 256
  pub device : r.device < 32
  pub function : r.function < 8
  pub register : r.register < 4096
  pub whole : r.register % 4 ≡ 0
  pub enables : r.enables < 16
  pub value : is_written r.writes r.value
