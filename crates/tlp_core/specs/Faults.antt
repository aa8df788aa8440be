-- What can be wrong with bytes, in the order in which it is told.
use Rattle.std.specs.Prelude.{ℕ, ◌-◌, ◌*◌, ◌%◌, Bool, false, not, ◌&&◌, ◌||◌, ◌==◌, nat_lt, if◌then◌else◌, List, [], ◌∷◌, ◌++◌, length, slice_index, Option, Some, None, is_none, find, Result, Ok, Err}
use Rattle.tlp_core.specs.declared.packet.Kind.{Kind}
use Rattle.tlp_core.specs.declared.packet.Kind.TheVariants as kinds
use Rattle.tlp_core.specs.declared.fault.TlpFault.{TlpFault}
use Rattle.tlp_core.specs.declared.fault.TlpFault.TheVariants as faults
use Rattle.tlp_core.specs.Bits.{bits, has_bit}
use Rattle.tlp_core.specs.Enables.{are_enables}
use Rattle.tlp_core.specs.TlpView.{TlpView, has_data}
use Rattle.tlp_core.specs.Layout.{kind_of, header_length, dw_count, address_of, packet_at}

-- the rule of byte enables, for the kinds that have them
abbrev pub breaks_enables : Kind → ℕ → ℕ → ℕ → ℕ → Bool
breaks_enables kinds.MemoryRead dw address first last = not (are_enables dw address first last)
breaks_enables kinds.MemoryWrite dw address first last = not (are_enables dw address first last)
breaks_enables _ dw address first last = false

-- the lengths of an AtomicOp
abbrev pub breaks_size : ℕ → Kind → Bool
breaks_size dw kinds.FetchAdd = not ((dw == 1) || (dw == 2))
breaks_size dw kinds.Swap = not ((dw == 1) || (dw == 2))
breaks_size dw kinds.Cas = not ((dw == 2) || (dw == 4) || (dw == 8))
breaks_size dw _ = false

-- the address of an AtomicOp is a multiple of its operand's size
abbrev pub breaks_alignment : ℕ → ℕ → Kind → Bool
breaks_alignment address dw kinds.FetchAdd = not (address % (4 * dw) == 0)
breaks_alignment address dw kinds.Swap = not (address % (4 * dw) == 0)
breaks_alignment address dw kinds.Cas = not (address % (2 * dw) == 0)
breaks_alignment address dw _ = false

-- how many bytes of payload the length promises
abbrev pub promised : ℕ → Kind → ℕ
promised dw kind = if has_data kind then 4 * dw else 0

-- the kind is there, and the test holds of it
abbrev pub of_kind : Option Kind → (Kind → Bool) → Bool
of_kind None test = false
of_kind (Some kind) test = test kind

-- the fault holds of the bytes
abbrev pub holds : TlpFault → List ℕ → Bool
holds faults.Short b = nat_lt (length b) (header_length b)
holds faults.Prefix b = bits b 0 5 3 == 4
holds faults.Kind b = is_none (kind_of (slice_index b 0))
holds faults.TenBitTag b = has_bit b 1 7 || has_bit b 1 3
holds faults.Hints b = has_bit b 1 1 || has_bit b 1 0
holds faults.Digest b = has_bit b 2 7
holds faults.Poisoned b = has_bit b 2 6
holds faults.Translated b = not (bits b 2 2 2 == 0)
holds faults.LengthMismatch b =
    of_kind (kind_of (slice_index b 0)) (λ k. not (length b - header_length b == promised (dw_count b) k))
holds faults.PayloadTooLong b = of_kind (kind_of (slice_index b 0)) (λ k. has_data k && nat_lt 32 (dw_count b))
holds faults.ByteEnables b =
    of_kind (kind_of (slice_index b 0)) (λ k. breaks_enables k (dw_count b) (address_of b) (bits b 7 0 4) (bits b 7 4 4))
holds faults.OperandSize b = of_kind (kind_of (slice_index b 0)) (breaks_size (dw_count b))
holds faults.Unaligned b = of_kind (kind_of (slice_index b 0)) (breaks_alignment (address_of b) (dw_count b))

-- those of any header
abbrev pub header_faults : List TlpFault
header_faults =
    faults.Short ∷ faults.Prefix ∷ faults.Kind ∷ faults.TenBitTag ∷ faults.Hints ∷ faults.Digest ∷ faults.Poisoned ∷ faults.Translated ∷ []

-- those of a kind
abbrev pub kind_faults : List TlpFault
kind_faults = faults.LengthMismatch ∷ faults.PayloadTooLong ∷ faults.ByteEnables ∷ faults.OperandSize ∷ faults.Unaligned ∷ []

-- the first of these faults that holds
abbrev pub first_of : List TlpFault → List ℕ → Option TlpFault
first_of list b = find (λ f. holds f b) list

-- the first fault that holds
abbrev pub first_fault : List ℕ → Option TlpFault
first_fault b = first_of (header_faults ++ kind_faults) b

-- the packet that the bytes spell, or their first fault
abbrev pub read_as : Option TlpFault → Option Kind → List ℕ → Result TlpView TlpFault
read_as (Some f) kind b = Err f
read_as None (Some k) b = Ok (packet_at b k)
read_as None None b = Err faults.Kind

abbrev pub reading : List ℕ → Result TlpView TlpFault
reading b = read_as (first_fault b) (kind_of (slice_index b 0)) b
