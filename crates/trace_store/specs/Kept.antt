-- Operations and replies whose bytes stand in their fields, or in a list with those of others.
use Rattle.std.specs.Prelude.{ℕ, ◌≡◌, ◌+◌, ◌<◌, ◌≤◌, ◌⊎◌, nat_le, if◌then◌else◌, List, length, take, drop}
use Rattle.tlp_core.specs.Limits.{max_payload}
use Rattle.byteorder.specs.Endian.{little_number}
use Rattle.tlp_core.specs.Ops.{Op}
use Rattle.tlp_core.specs.declared.operation.OpOf.TheVariants as ops
use Rattle.tlp_core.specs.declared.operation.Width.{Width}
use Rattle.tlp_core.specs.Operands.{number_of}
use Rattle.seq_memory.specs.Entries.{Reply}
use Rattle.seq_memory.specs.declared.reply.ReplyOf.TheVariants as replies
use Rattle.seq_memory.specs.Step.{bytes_at, data_of}
use Rattle.trace_store.specs.declared.kept.OpKind.{OpKind}
use Rattle.trace_store.specs.declared.kept.OpKind.TheVariants as op_kinds
use Rattle.trace_store.specs.declared.kept.ReplyKind.{ReplyKind}
use Rattle.trace_store.specs.declared.kept.ReplyKind.TheVariants as reply_kinds
use Rattle.trace_store.specs.declared.kept.Fields.{Fields}

-- so many bytes: up to 8 stand in the room, and more in the list, from the index in the room on
abbrev pub held : List ℕ → List ℕ → ℕ → List ℕ
held bytes room size = if nat_le size 8 then take size room else bytes_at bytes (little_number 8 room) size

-- the bytes of a write or a reply, or of one operand
abbrev pub held_in : List ℕ → Fields → List ℕ
held_in bytes f = held bytes f.room f.count

-- the bytes of two operands, one after the other
abbrev pub both_in : List ℕ → Fields → List ℕ
both_in bytes f = held bytes f.room (f.count + f.count)

-- a CAS of two operands of so many bytes each
abbrev pub cas_of : ℕ → Width → ℕ → List ℕ → Op
cas_of address w count both = ops.Cas address w (number_of (take count both)) (number_of (drop count both))

-- the operation that is kept
abbrev pub op_in : List ℕ → OpKind → Fields → Op
op_in bytes op_kinds.Read f = ops.Read f.address f.count f.first f.last
op_in bytes op_kinds.Write f = ops.Write f.address f.first f.last (record { items = held_in bytes f })
op_in bytes (op_kinds.FetchAdd w) f = ops.FetchAdd f.address w (number_of (held_in bytes f))
op_in bytes (op_kinds.Swap w) f = ops.Swap f.address w (number_of (held_in bytes f))
op_in bytes (op_kinds.Cas w) f = cas_of f.address w f.count (both_in bytes f)

-- the reply that is kept
abbrev pub reply_in : List ℕ → ReplyKind → Fields → Reply
reply_in bytes reply_kinds.Done f = replies.Done
reply_in bytes reply_kinds.Data f = data_of (held_in bytes f)
reply_in bytes reply_kinds.Unsupported f = replies.Unsupported
reply_in bytes reply_kinds.Aborted f = replies.Aborted

-- an operand is kept in 4, 8 or 16 bytes, whatever its width
abbrev pub IsSize : ℕ → Type 0
IsSize count = (count ≡ 4) ⊎ (count ≡ 8) ⊎ (count ≡ 16)

-- the list has so many bytes, if they don't stand in the room
abbrev pub Holds : List ℕ → List ℕ → ℕ → Type 0
Holds bytes room size = 8 < size → little_number 8 room + size ≤ length bytes

-- the operation's bytes are there
abbrev pub HasOp : List ℕ → OpKind → Fields → Type 0
HasOp bytes op_kinds.Read f = Unit {0}
HasOp bytes op_kinds.Write f = (f.count ≤ max_payload) × Holds bytes f.room f.count
HasOp bytes (op_kinds.FetchAdd w) f = IsSize f.count × Holds bytes f.room f.count
HasOp bytes (op_kinds.Swap w) f = IsSize f.count × Holds bytes f.room f.count
HasOp bytes (op_kinds.Cas w) f = IsSize f.count × Holds bytes f.room (f.count + f.count)

-- the reply's bytes are there
abbrev pub HasReply : List ℕ → ReplyKind → Fields → Type 0
HasReply bytes reply_kinds.Data f = (f.count ≤ max_payload) × Holds bytes f.room f.count
HasReply bytes _ f = Unit {0}

-- bytes stand behind the old ones
abbrev pub Grows : List ℕ → List ℕ → Type 0
Grows old new = take (length old) new ≡ old
