-- One step of the sequential memory: a list of bytes from a base address on.
use Rattle.std.specs.Prelude.{ℕ, ◌≡◌, ◌+◌, ◌-◌, ◌*◌, ◌/◌, Bool, false, not, ◌&&◌, ◌||◌, ◌==◌, nat_le, if◌then◌else◌, List, [], ◌∷◌, ◌++◌, length, take, drop, get_or, replicate, Option, Some, None, is_some}
use Rattle.byteorder.specs.Endian.{little_number, little_bytes}
use Rattle.tlp_core.specs.Ops.{Op}
use Rattle.tlp_core.specs.declared.operation.OpOf.TheVariants as ops
use Rattle.tlp_core.specs.declared.operation.Width.{Width}
use Rattle.tlp_core.specs.Enables.{enables}
use Rattle.tlp_core.specs.Operation.{size_of, address_of, count_of, op_fault}
use Rattle.seq_memory.specs.declared.atomics.AtomicOp.{AtomicOp}
use Rattle.seq_memory.specs.declared.atomics.AtomicOp.TheVariants as atomics
use Rattle.seq_memory.specs.NewValue.{new_value}
use Rattle.seq_memory.specs.declared.Refusal.{Refusal}
use Rattle.seq_memory.specs.declared.Refusal.TheVariants as refusals
use Rattle.seq_memory.specs.Entries.{Reply}
use Rattle.seq_memory.specs.declared.reply.ReplyOf.TheVariants as replies

-- ---- what is served

-- the first and the last byte lie in one naturally aligned block
abbrev pub is_in_block : ℕ → ℕ → ℕ → Bool
is_in_block block address count = address / block == (address + count - 1) / block

-- all bytes lie in the memory
abbrev pub is_inside : ℕ → ℕ → ℕ → ℕ → Bool
is_inside base size address count = nat_le base address && nat_le (address + count) (base + size)

-- why an operation is not served, the block tested first
abbrev pub refusal : ℕ → ℕ → ℕ → Op → Option Refusal
refusal base size block op =
    if is_some (op_fault op) || not (is_in_block block (address_of op) (count_of op)) then Some refusals.Aborted
    else (if is_inside base size (address_of op) (count_of op) then None else Some refusals.Unsupported)

-- ---- what a served operation does at its place

-- each new byte where it is enabled, and else the old one
abbrev pub merged : List Bool → List ℕ → List ℕ → List ℕ
merged (e ∷ es) (x ∷ xs) (y ∷ ys) = (if e then x else y) ∷ merged es xs ys
merged _ _ _ = []

-- the place as the AtomicOp leaves it
abbrev pub changed : Width → AtomicOp → List ℕ → List ℕ
changed w op old = little_bytes (size_of w) (new_value op w (little_number (size_of w) old))

-- the place after the operation
abbrev pub place_after : Op → List ℕ → List ℕ
place_after (ops.Read a dw f l) old = old
place_after (ops.Write a f l bytes) old = merged (enables (length bytes.items / 4) f l) bytes.items old
place_after (ops.FetchAdd a w x) old = changed w (atomics.FetchAdd x) old
place_after (ops.Swap a w x) old = changed w (atomics.Swap x) old
place_after (ops.Cas a w x y) old = changed w (atomics.Cas x y) old

abbrev pub data_of : List ℕ → Reply
data_of bytes = replies.Data (record { items = bytes })

-- the reply: a read's enabled bytes with zeros for the others, and an AtomicOp's original bytes
abbrev pub read_back : Op → List ℕ → Reply
read_back (ops.Read a dw f l) old = data_of (merged (enables dw f l) old (replicate (4 * dw) 0))
read_back (ops.Write a f l bytes) old = replies.Done
read_back (ops.FetchAdd a w x) old = data_of old
read_back (ops.Swap a w x) old = data_of old
read_back (ops.Cas a w x y) old = data_of old

-- ---- one step

-- so many bytes from an index on
abbrev pub bytes_at : List ℕ → ℕ → ℕ → List ℕ
bytes_at m i count = take count (drop i m)

-- those bytes replaced
abbrev pub patched : List ℕ → ℕ → ℕ → List ℕ → List ℕ
patched m i count new = take i m ++ new ++ drop (i + count) m

abbrev pub after_by : Option Refusal → List ℕ → List ℕ → List ℕ
after_by None old new = new
after_by (Some r) old new = old

abbrev pub answer_by : Option Refusal → Reply → Reply
answer_by None r = r
answer_by (Some refusals.Aborted) r = replies.Aborted
answer_by (Some refusals.Unsupported) r = replies.Unsupported

-- the bytes after the operation
abbrev pub after : ℕ → ℕ → List ℕ → Op → List ℕ
after base block m op =
    after_by (refusal base (length m) block op) m
    (patched m (address_of op - base) (count_of op) (place_after op (bytes_at m (address_of op - base) (count_of op))))

-- the reply to the operation
abbrev pub answer : ℕ → ℕ → List ℕ → Op → Reply
answer base block m op =
    answer_by (refusal base (length m) block op) (read_back op (bytes_at m (address_of op - base) (count_of op)))

-- ---- a read right after a write of the same DW

-- byte k of so many DW is enabled
abbrev pub is_enabled : ℕ → ℕ → ℕ → ℕ → Bool
is_enabled dw first last k = get_or (enables dw first last) k false

-- the written bytes where they are enabled, and else the old ones
abbrev pub written_over : ℕ → ℕ → List ℕ → List ℕ → List ℕ
written_over first last bytes old = merged (enables (length bytes / 4) first last) bytes old

-- of as many bytes those that are read, and 0 for the others
abbrev pub read_over : ℕ → ℕ → List ℕ → List ℕ → List ℕ
read_over first last bytes place = merged (enables (length bytes / 4) first last) place (replicate (length bytes) 0)

-- data has as many bytes as the place
abbrev pub IsSizedFor : Op → Reply → Type 0
IsSizedFor op (replies.Data bytes) = length bytes.items ≡ count_of op
IsSizedFor op replies.Done = Unit {0}
IsSizedFor op replies.Unsupported = Unit {0}
IsSizedFor op replies.Aborted = Unit {0}
