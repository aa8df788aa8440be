-- What the memory of a device is asked, and what it answers.
use Rattle.std.specs.Prelude.{ℕ, ◌≡◌, ◌+◌, ◌≤◌, true, length, None}
use Rattle.tlp_core.specs.Limits.{max_payload}
use Rattle.tlp_core.specs.Ops.{Op}
use Rattle.tlp_core.specs.Bits.{IsBytes}
use Rattle.tlp_core.specs.Operation.{address_of, count_of, op_fault}
use Rattle.seq_memory.specs.Entries.{Reply}
use Rattle.seq_memory.specs.declared.reply.ReplyOf.TheVariants as replies
use Rattle.op_pieces.specs.Pieces.{bytes_of, is_in_one_block}

-- without a fault, in one block of 128 bytes, which lies in a memory of that size from address 0 on
pub record IsBlockRequest (size : ℕ) (op : Op) : Type 0 where
  pub sound : op_fault op ≡ None
  pub one : is_in_one_block op ≡ true
  pub inside : address_of op + count_of op ≤ size
  pub bytes : IsBytes (bytes_of op)

-- 1 to 128 bytes
abbrev pub IsDataReply : Reply → Type 0
IsDataReply (replies.Data bytes) = (1 ≤ length bytes.items) × (length bytes.items ≤ max_payload) × IsBytes bytes.items
IsDataReply replies.Done = ⊥
IsDataReply replies.Unsupported = ⊥
IsDataReply replies.Aborted = ⊥
