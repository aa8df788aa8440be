-- A reply and an entry as contracts see them, whether their bytes are their own or lent.
use Rattle.std.specs.Prelude.{ℕ}
use Rattle.arrayvec.specs.ArrayVec.{ArrayVec}
use Rattle.tlp_core.specs.Ops.{Op}
use Rattle.seq_memory.specs.declared.reply.ReplyOf.{ReplyOf}
use Rattle.seq_memory.specs.declared.entry.EntryOf.{EntryOf}

-- what the memory answers
abbrev pub Reply : Type 0
Reply = ReplyOf (ArrayVec ℕ)

-- a request in the history
abbrev pub Entry : Type 0
Entry = EntryOf Op
