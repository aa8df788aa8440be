-- Answers that have only that a request was done.
use Rattle.std.specs.Prelude.{Bool, true, false}
use Rattle.seq_memory.specs.Entries.{Entry}
use Rattle.seq_memory.specs.Entries.{Reply}
use Rattle.seq_memory.specs.declared.reply.ReplyOf.TheVariants as replies
use Rattle.history_words.specs.Records.{Record}
use Rattle.history_words.specs.declared.record.RecordOf.TheVariants as records
use Rattle.history_words.specs.Trace.{is_request}

abbrev pub is_done : Reply → Bool
is_done replies.Done = true
is_done (replies.Data bytes) = false
is_done replies.Unsupported = false
is_done replies.Aborted = false

abbrev pub lacks_reply : Record → Bool
lacks_reply (records.Sub i k op n) = false
lacks_reply (records.Ans i k told n) = is_done told

-- the record has only that the entry's request was done
abbrev pub waits : Entry → Record → Bool
waits e (records.Sub i k op n) = false
waits e (records.Ans i k replies.Done n) = is_request i k e
waits e (records.Ans i k (replies.Data bytes) n) = false
waits e (records.Ans i k replies.Unsupported n) = false
waits e (records.Ans i k replies.Aborted n) = false
