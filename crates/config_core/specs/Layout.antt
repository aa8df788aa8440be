-- The bytes of a configuration request: the tables of sections 2.2.1 and 2.2.7.
use Rattle.std.specs.Prelude.{ℕ, ◌≡◌, ◌+◌, ◌*◌, ◌/◌, ◌%◌, ◌==◌, ◌||◌, Bool, not, nat_lt, if◌then◌else◌, List, [], ◌∷◌, length, drop, slice_index, Option, Some, None, find, Result, Ok, Err}
use Rattle.byteorder.specs.Endian.{big_number, little_number}
use Rattle.config_core.specs.declared.request.CfgRequest.{CfgRequest}
use Rattle.config_core.specs.declared.fault.CfgFault.{CfgFault}
use Rattle.config_core.specs.declared.fault.CfgFault.TheVariants as faults

-- Fmt and Type, in byte 0: CfgRd0 04h, CfgRd1 05h, CfgWr0 44h, CfgWr1 45h
abbrev pub is_kind : ℕ → Bool
is_kind code = (code == 0x04) || (code == 0x05) || (code == 0x44) || (code == 0x45)

abbrev pub is_write : ℕ → Bool
is_write code = (code == 0x44) || (code == 0x45)

abbrev pub is_type_1 : ℕ → Bool
is_type_1 code = (code == 0x05) || (code == 0x45)

-- a header of 3 DW, and the DW that is written
abbrev pub size_of : ℕ → ℕ
size_of code = if is_write code then 16 else 12

-- other bytes than these, or a Length other than 1
abbrev pub is_mismatched : List ℕ → Bool
is_mismatched b = not (length b == size_of (slice_index b 0)) || (not (slice_index b 2 % 4 == 0) || not (slice_index b 3 == 1))

-- byte 1 has TC, T9, T8, an attribute, LN and TH, byte 2 attributes and AT, byte 7 Last DW BE
abbrev pub has_fields : List ℕ → Bool
has_fields b = not (slice_index b 1 == 0) || (not (slice_index b 2 / 4 % 16 == 0) || not (slice_index b 7 / 16 == 0))

-- the fault holds of the bytes
abbrev pub holds : CfgFault → List ℕ → Bool
holds faults.Short b = nat_lt (length b) 12
holds faults.Kind b = not (is_kind (slice_index b 0))
holds faults.Digest b = slice_index b 2 / 128 == 1
holds faults.Poisoned b = slice_index b 2 / 64 % 2 == 1
holds faults.LengthMismatch b = is_mismatched b
holds faults.Fields b = has_fields b

-- the first fault that holds
abbrev pub first_fault : List ℕ → Option CfgFault
first_fault b =
    find (λ f. holds f b) (faults.Short ∷ faults.Kind ∷ faults.Digest ∷ faults.Poisoned ∷ faults.LengthMismatch ∷ faults.Fields ∷ [])

abbrev pub value_of : List ℕ → ℕ
value_of b = if is_write (slice_index b 0) then little_number 4 (drop 12 b) else 0

-- The bytes have no fault, and each field stands where the tables have it. No other bit counts.
pub record Spells (b : List ℕ) (r : CfgRequest) : Type 0 where
  pub faultless : first_fault b ≡ None
  pub writes : r.writes ≡ is_write (slice_index b 0)
  pub type_1 : r.is_type_1 ≡ is_type_1 (slice_index b 0)
  pub requester : r.requester ≡ big_number 2 (drop 4 b)
  pub tag : r.tag ≡ slice_index b 6
  pub bus : r.bus ≡ slice_index b 8
  pub device : r.device ≡ slice_index b 9 / 8
  pub function : r.function ≡ slice_index b 9 % 8
  pub register : r.register ≡ slice_index b 10 % 16 * 256 + slice_index b 11 / 4 * 4
  pub enables : r.enables ≡ slice_index b 7 % 16
  pub value : r.value ≡ value_of b

-- the request that the tables read
abbrev pub request_at : List ℕ → CfgRequest
request_at b = record {
  writes = is_write (slice_index b 0);
  is_type_1 = is_type_1 (slice_index b 0);
  requester = big_number 2 (drop 4 b);
  tag = slice_index b 6;
  bus = slice_index b 8;
  device = slice_index b 9 / 8;
  function = slice_index b 9 % 8;
  register = slice_index b 10 % 16 * 256 + slice_index b 11 / 4 * 4;
  enables = slice_index b 7 % 16;
  value = value_of b;
}

-- the request that the bytes spell, or their first fault
abbrev pub read_as : Option CfgFault → List ℕ → Result CfgRequest CfgFault
read_as (Some f) b = Err f
read_as None b = Ok (request_at b)

abbrev pub reading : List ℕ → Result CfgRequest CfgFault
reading b = read_as (first_fault b) b
