-- The four bytes of the DLLPs of a link: InitFC1 and InitFC2 (section 3.4.1), laid out as an UpdateFC, and all others.
use Rattle.std.specs.Prelude.{ℕ, ◌+◌, ◌*◌, ◌/◌, ◌%◌, ◌<◌, ◌==◌, ◌||◌, not, if◌then◌else◌, List, [], ◌∷◌, length, slice_index, Option, Some, None, Result, Ok, Err}
use Rattle.dllp_core.specs.declared.packet.Class.{Class}
use Rattle.dllp_core.specs.declared.packet.Class.TheVariants.{Posted, NonPosted, Completion}
use Rattle.dllp_core.specs.declared.packet.Dllp.{Dllp}
use Rattle.dllp_core.specs.declared.fault.DllpFault.{DllpFault}
use Rattle.dllp_core.specs.declared.fault.DllpFault.TheVariants as faults
use Rattle.dllp_core.specs.Faults.{reading}
use Rattle.dllp_core.specs.Layout.{low_twelve, header_credits, header_scale, data_scale, canonical, FitsDataFC}
use Rattle.port_core.specs.declared.init.FirstCredits.{FirstCredits}
use Rattle.port_core.specs.declared.dllp.InitStage.{InitStage}
use Rattle.port_core.specs.declared.dllp.InitStage.TheVariants.{First, Second}
use Rattle.port_core.specs.declared.dllp.LinkDllp.{LinkDllp}
use Rattle.port_core.specs.declared.dllp.LinkDllp.TheVariants.{Init, Other}

-- the DLLP Type of an InitFC, for VC0
abbrev pub init_code : InitStage → Class → ℕ
init_code First Posted = 0x40
init_code First NonPosted = 0x50
init_code First Completion = 0x60
init_code Second Posted = 0xC0
init_code Second NonPosted = 0xD0
init_code Second Completion = 0xE0

abbrev pub init_kind_of : ℕ → Option (InitStage × Class)
init_kind_of code =
    if code == 0x40 then Some (First, Posted)
    else (if code == 0x50 then Some (First, NonPosted)
    else (if code == 0x60 then Some (First, Completion)
    else (if code == 0xC0 then Some (Second, Posted)
    else (if code == 0xD0 then Some (Second, NonPosted)
    else (if code == 0xE0 then Some (Second, Completion)
    else None)))))

-- the credits, unless they are scaled
abbrev pub credits_in : List ℕ → Result FirstCredits DllpFault
credits_in bytes =
    if not (header_scale bytes == 0) || not (data_scale bytes == 0) then Err faults.Scaled
    else Ok (record { header = header_credits bytes; units = low_twelve bytes })

abbrev pub with_kind : InitStage → Class → Result FirstCredits DllpFault → Result LinkDllp DllpFault
with_kind stage class (Ok first) = Ok (Init stage class first)
with_kind stage class (Err fault) = Err fault

abbrev pub other_read : Result Dllp DllpFault → Result LinkDllp DllpFault
other_read (Ok d) = Ok (Other d)
other_read (Err fault) = Err fault

abbrev pub read_by : Option (InitStage × Class) → List ℕ → Result LinkDllp DllpFault
read_by (Some kind) bytes = with_kind kind.0 kind.1 (credits_in bytes)
read_by None bytes = other_read (reading bytes)

-- the DLLP that the bytes spell, or the first fault
abbrev pub link_reading : List ℕ → Result LinkDllp DllpFault
link_reading bytes = if length bytes == 4 then read_by (init_kind_of (slice_index bytes 0)) bytes else Err faults.Short

-- the data units fit their field
abbrev pub HasFields : LinkDllp → Type 0
HasFields (Init stage class first) = first.units < 4096
HasFields (Other d) = FitsDataFC d

-- the one spelling with zeros in all ignored bits
abbrev pub link_bytes : LinkDllp → List ℕ
link_bytes (Init stage class first) =
    init_code stage class ∷ (first.header / 4) ∷ (first.header % 4 * 64 + first.units / 256) ∷ (first.units % 256) ∷ []
link_bytes (Other d) = canonical d
