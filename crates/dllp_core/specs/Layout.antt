-- The four bytes of a DLLP: Ack and Nak (section 3.5.1), UpdateFC (section 3.5.1 and 2.6.1).
use Rattle.std.specs.Prelude.{ℕ, ◌≡◌, ◌+◌, ◌*◌, ◌/◌, ◌%◌, ◌<◌, if◌then◌else◌, ◌==◌, List, [], ◌∷◌, length, slice_index, Option, Some, None}
use Rattle.dllp_core.specs.declared.packet.Class.{Class}
use Rattle.dllp_core.specs.declared.packet.Class.TheVariants.{Posted, NonPosted, Completion}
use Rattle.dllp_core.specs.declared.packet.Kind.{Kind}
use Rattle.dllp_core.specs.declared.packet.Kind.TheVariants as kinds
use Rattle.dllp_core.specs.declared.packet.Dllp.{Dllp}
use Rattle.dllp_core.specs.declared.packet.Dllp.TheVariants.{Ack, Nak, Update}

-- the DLLP Type in byte 0
abbrev pub kind_of : ℕ → Option Kind
kind_of code =
    if code == 0x00 then Some kinds.Ack
    else (if code == 0x10 then Some kinds.Nak
    else (if code == 0x80 then Some (kinds.Update Posted)
    else (if code == 0x90 then Some (kinds.Update NonPosted)
    else (if code == 0xA0 then Some (kinds.Update Completion)
    else None))))

-- AckNak_Seq_Num, or DataFC: the low 4 bits of byte 2, and byte 3
abbrev pub low_twelve : List ℕ → ℕ
low_twelve bytes = slice_index bytes 2 % 16 * 256 + slice_index bytes 3

-- HdrFC: the low 6 bits of byte 1, and the high 2 bits of byte 2
abbrev pub header_credits : List ℕ → ℕ
header_credits bytes = slice_index bytes 1 % 64 * 4 + slice_index bytes 2 / 64

-- HdrScale, the high 2 bits of byte 1
abbrev pub header_scale : List ℕ → ℕ
header_scale bytes = slice_index bytes 1 / 64

-- DataScale, bits 5 and 4 of byte 2
abbrev pub data_scale : List ℕ → ℕ
data_scale bytes = slice_index bytes 2 / 16 % 4

-- an Ack or Nak: byte 1 and the high 4 bits of byte 2 are ignored
pub record SpellsNumber (bytes : List ℕ) (kind : Kind) (number : ℕ) : Type 0 where
  pub is_whole : length bytes ≡ 4
  pub has_kind : kind_of (slice_index bytes 0) ≡ Some kind
  pub has_number : number ≡ low_twelve bytes

-- an UpdateFC, whose credits aren't scaled
pub record SpellsCredits (bytes : List ℕ) (class : Class) (header units : ℕ) : Type 0 where
  pub is_whole : length bytes ≡ 4
  pub has_kind : kind_of (slice_index bytes 0) ≡ Some (kinds.Update class)
  pub header_is_unscaled : header_scale bytes ≡ 0
  pub data_is_unscaled : data_scale bytes ≡ 0
  pub has_header : header ≡ header_credits bytes
  pub has_units : units ≡ low_twelve bytes

-- the bytes are the DLLP, each field where the table has it
abbrev pub Spells : List ℕ → Dllp → Type 0
Spells bytes (Ack number) = SpellsNumber bytes kinds.Ack number
Spells bytes (Nak number) = SpellsNumber bytes kinds.Nak number
Spells bytes (Update class header units) = SpellsCredits bytes class header units

-- what an UpdateFC says fits its fields; a sequence number always does
abbrev pub FitsDataFC : Dllp → Type 0
FitsDataFC (Ack number) = Unit {0}
FitsDataFC (Nak number) = Unit {0}
FitsDataFC (Update class header units) = units < 4096

-- every number of the DLLP fits its field
abbrev pub FitsFields : Dllp → Type 0
FitsFields (Ack number) = number < 4096
FitsFields (Nak number) = number < 4096
FitsFields (Update class header units) = (header < 256) × (units < 4096)

-- byte 0 of an UpdateFC
abbrev pub update_code : Class → ℕ
update_code Posted = 0x80
update_code NonPosted = 0x90
update_code Completion = 0xA0

-- the one spelling with zeros in all ignored bits
abbrev pub canonical : Dllp → List ℕ
canonical (Ack number) = 0x00 ∷ 0 ∷ (number / 256) ∷ (number % 256) ∷ []
canonical (Nak number) = 0x10 ∷ 0 ∷ (number / 256) ∷ (number % 256) ∷ []
canonical (Update class header units) =
    update_code class ∷ (header / 4) ∷ (header % 4 * 64 + units / 256) ∷ (units % 256) ∷ []
