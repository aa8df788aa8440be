-- A record as contracts see it, whether its bytes are its own or lent.
use Rattle.tlp_core.specs.Ops.{Op}
use Rattle.seq_memory.specs.Entries.{Reply}
use Rattle.history_words.specs.declared.record.RecordOf.{RecordOf}

-- what a requester saw
abbrev pub Record : Type 0
Record = RecordOf Op Reply
