-- Why bytes are no DLLP, in the order in which it is told.
use Rattle.std.specs.Prelude.{ℕ, Bool, false, not, ◌||◌, ◌==◌, List, [], ◌∷◌, length, slice_index, Option, Some, None, is_none, find, Result, Ok, Err, codes}
use Rattle.dllp_core.specs.declared.packet.Kind.{Kind}
use Rattle.dllp_core.specs.declared.packet.Kind.TheVariants as kinds
use Rattle.dllp_core.specs.declared.packet.Dllp.{Dllp}
use Rattle.dllp_core.specs.declared.packet.Dllp.TheVariants as dllps
use Rattle.dllp_core.specs.declared.fault.DllpFault.{DllpFault}
use Rattle.dllp_core.specs.declared.fault.DllpFault.TheVariants as faults
use Rattle.dllp_core.specs.Layout.{kind_of, low_twelve, header_credits, header_scale, data_scale}

-- the place of a fault in the order, from 1
abbrev pub number_of : DllpFault → ℕ
number_of faults.Short = 1
number_of faults.Kind = 2
number_of faults.Scaled = 3

abbrev pub name_of : DllpFault → List ℕ
name_of faults.Short = codes "Short"
name_of faults.Kind = codes "Kind"
name_of faults.Scaled = codes "Scaled"

-- only an UpdateFC has scale bits
abbrev pub is_scaled : Option Kind → List ℕ → Bool
is_scaled (Some (kinds.Update class)) bytes = not (header_scale bytes == 0) || not (data_scale bytes == 0)
is_scaled _ bytes = false

-- the fault holds of the bytes
abbrev pub holds : DllpFault → List ℕ → Bool
holds faults.Short bytes = not (length bytes == 4)
holds faults.Kind bytes = is_none (kind_of (slice_index bytes 0))
holds faults.Scaled bytes = is_scaled (kind_of (slice_index bytes 0)) bytes

-- the first fault that holds
abbrev pub first_fault : List ℕ → Option DllpFault
first_fault bytes = find (λ fault. holds fault bytes) (faults.Short ∷ faults.Kind ∷ faults.Scaled ∷ [])

-- the DLLP of this kind in the bytes
abbrev pub dllp_at : Kind → List ℕ → Dllp
dllp_at kinds.Ack bytes = dllps.Ack (low_twelve bytes)
dllp_at kinds.Nak bytes = dllps.Nak (low_twelve bytes)
dllp_at (kinds.Update class) bytes = dllps.Update class (header_credits bytes) (low_twelve bytes)

-- the first fault, or the DLLP that the bytes spell
abbrev pub read_as : Option DllpFault → Option Kind → List ℕ → Result Dllp DllpFault
read_as (Some fault) kind bytes = Err fault
read_as None (Some kind) bytes = Ok (dllp_at kind bytes)
read_as None None bytes = Err faults.Kind

abbrev pub reading : List ℕ → Result Dllp DllpFault
reading bytes = read_as (first_fault bytes) (kind_of (slice_index bytes 0)) bytes
