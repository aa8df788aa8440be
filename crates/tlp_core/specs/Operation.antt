-- Operations, what is wrong with one, and the operation that a packet asks for.
use Rattle.std.specs.Prelude.{ℕ, ◌*◌, ◌/◌, ◌%◌, ◌^◌, Bool, true, false, not, ◌||◌, ◌==◌, nat_lt, if◌then◌else◌, List, [], ◌∷◌, length, drop, Option, Some, None, find}
use Rattle.byteorder.specs.Endian.{little_number}
use Rattle.tlp_core.specs.Ops.{Op}
use Rattle.tlp_core.specs.declared.operation.OpOf.TheVariants as ops
use Rattle.tlp_core.specs.declared.operation.Width.{Width}
use Rattle.tlp_core.specs.declared.operation.Width.TheVariants as widths
use Rattle.tlp_core.specs.declared.packet.Kind.{Kind}
use Rattle.tlp_core.specs.declared.packet.Kind.TheVariants as kinds
use Rattle.tlp_core.specs.declared.packet.Body.{Body}
use Rattle.tlp_core.specs.declared.packet.Body.TheVariants as bodies
use Rattle.tlp_core.specs.declared.fault.TlpFault.{TlpFault}
use Rattle.tlp_core.specs.declared.fault.TlpFault.TheVariants as faults
use Rattle.tlp_core.specs.Enables.{are_enables}
use Rattle.tlp_core.specs.TlpView.{TlpView}

-- in bytes
abbrev pub size_of : Width → ℕ
size_of widths.Four = 4
size_of widths.Eight = 8
size_of widths.Sixteen = 16

-- the number has that many bytes at most
abbrev pub fits : Width → ℕ → Bool
fits width n = nat_lt n (2 ^ (8 * size_of width))

-- writes alone are posted
abbrev pub is_posted : Op → Bool
is_posted (ops.Write a f l bytes) = true
is_posted _ = false

-- ---- place: the bytes that an operation names, whatever its enables

-- its first address
abbrev pub address_of : Op → ℕ
address_of (ops.Read a dw f l) = a
address_of (ops.Write a f l bytes) = a
address_of (ops.FetchAdd a w x) = a
address_of (ops.Swap a w x) = a
address_of (ops.Cas a w x y) = a

-- the same operation with another first address
abbrev pub at_address : ℕ → Op → Op
at_address n (ops.Read a dw f l) = ops.Read n dw f l
at_address n (ops.Write a f l bytes) = ops.Write n f l bytes
at_address n (ops.FetchAdd a w x) = ops.FetchAdd n w x
at_address n (ops.Swap a w x) = ops.Swap n w x
at_address n (ops.Cas a w x y) = ops.Cas n w x y

-- how many bytes it has
abbrev pub count_of : Op → ℕ
count_of (ops.Read a dw f l) = 4 * dw
count_of (ops.Write a f l bytes) = length bytes.items
count_of (ops.FetchAdd a w x) = size_of w
count_of (ops.Swap a w x) = size_of w
count_of (ops.Cas a w x y) = size_of w

-- ---- faults of an operation

abbrev pub wrong_length : Op → Bool
wrong_length (ops.Read a dw f l) = (dw == 0) || nat_lt 1024 dw
wrong_length (ops.Write a f l bytes) = (length bytes.items == 0) || not (length bytes.items % 4 == 0)
wrong_length _ = false

abbrev pub wrong_enables : Op → Bool
wrong_enables (ops.Read a dw f l) = nat_lt 15 f || nat_lt 15 l || not (are_enables dw a f l)
wrong_enables (ops.Write a f l bytes) = nat_lt 15 f || nat_lt 15 l || not (are_enables (length bytes.items / 4) a f l)
wrong_enables _ = false

-- two operands of 16 bytes at most, one of 8, and each in its width
abbrev pub wrong_operand : Op → Bool
wrong_operand (ops.FetchAdd a w x) = (size_of w == 16) || not (fits w x)
wrong_operand (ops.Swap a w x) = (size_of w == 16) || not (fits w x)
wrong_operand (ops.Cas a w x y) = not (fits w x) || not (fits w y)
wrong_operand _ = false

abbrev pub wrong_address : Op → Bool
wrong_address (ops.Read a dw f l) = not (a % 4 == 0)
wrong_address (ops.Write a f l bytes) = not (a % 4 == 0)
wrong_address (ops.FetchAdd a w x) = not (a % size_of w == 0)
wrong_address (ops.Swap a w x) = not (a % size_of w == 0)
wrong_address (ops.Cas a w x y) = not (a % size_of w == 0)

abbrev pub op_holds : TlpFault → Op → Bool
op_holds faults.LengthMismatch op = wrong_length op
op_holds faults.ByteEnables op = wrong_enables op
op_holds faults.OperandSize op = wrong_operand op
op_holds faults.Unaligned op = wrong_address op
op_holds _ op = false

-- the first fault of an operation
abbrev pub op_fault : Op → Option TlpFault
op_fault op =
    find (λ f. op_holds f op) (faults.LengthMismatch ∷ faults.ByteEnables ∷ faults.OperandSize ∷ faults.Unaligned ∷ [])

-- ---- the operation of a packet

abbrev pub width_of : ℕ → Width
width_of count = if count == 4 then widths.Four else (if count == 8 then widths.Eight else widths.Sixteen)

abbrev pub op_at : Kind → Body → ℕ → List ℕ → Option Op
op_at kinds.MemoryRead (bodies.Request a f l) dw bytes = Some (ops.Read a dw f l)
op_at kinds.MemoryWrite (bodies.Request a f l) dw bytes = Some (ops.Write a f l (record { items = bytes }))
op_at kinds.FetchAdd (bodies.Request a f l) dw bytes = Some (ops.FetchAdd a (width_of (4 * dw)) (little_number (4 * dw) bytes))
op_at kinds.Swap (bodies.Request a f l) dw bytes = Some (ops.Swap a (width_of (4 * dw)) (little_number (4 * dw) bytes))
op_at kinds.Cas (bodies.Request a f l) dw bytes =
    Some (ops.Cas a (width_of (2 * dw)) (little_number (2 * dw) bytes) (little_number (2 * dw) (drop (2 * dw) bytes)))
op_at _ _ dw bytes = None

abbrev pub is_completion : Kind → Bool
is_completion kinds.Completion = true
is_completion kinds.CompletionData = true
is_completion _ = false

-- none for a completion
abbrev pub op_of : TlpView → Option Op
op_of t = op_at t.kind t.body t.length t.payload
