-- What an AtomicOp leaves at its location (section 6.15).
use Rattle.std.specs.Prelude.{ℕ, ◌+◌, ◌*◌, ◌%◌, ◌^◌, ◌<◌, ◌==◌, if◌then◌else◌}
use Rattle.tlp_core.specs.declared.operation.Width.{Width}
use Rattle.tlp_core.specs.Operation.{size_of}
use Rattle.seq_memory.specs.declared.atomics.AtomicOp.{AtomicOp}
use Rattle.seq_memory.specs.declared.atomics.AtomicOp.TheVariants.{FetchAdd, Swap, Cas}

-- each operand is a number of that many bytes
abbrev pub FitsWidth : AtomicOp → Width → Type 0
FitsWidth (FetchAdd operand) width = operand < 2 ^ (8 * size_of width)
FitsWidth (Swap operand) width = operand < 2 ^ (8 * size_of width)
FitsWidth (Cas compare swap) width = (compare < 2 ^ (8 * size_of width)) × (swap < 2 ^ (8 * size_of width))

-- the value after the operation on the old value: FetchAdd is modulo 2 to the number of operand bits
abbrev pub new_value : AtomicOp → Width → ℕ → ℕ
new_value (FetchAdd operand) width old = (old + operand) % 2 ^ (8 * size_of width)
new_value (Swap operand) width old = operand
new_value (Cas compare swap) width old = if old == compare then swap else old
