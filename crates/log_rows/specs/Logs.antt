-- Small logs of a memory of 128 bytes from address 0 on, served by blocks of 64. All n's are 0, since a log says nothing by them.
use Rattle.std.specs.Prelude.{ℕ, List, [], ◌∷◌}
use Rattle.tlp_core.specs.Ops.{Op}
use Rattle.tlp_core.specs.declared.operation.OpOf.TheVariants as ops
use Rattle.tlp_core.specs.declared.operation.Width.TheVariants as widths
use Rattle.seq_memory.specs.Entries.{Reply}
use Rattle.seq_memory.specs.declared.reply.ReplyOf.TheVariants as replies
use Rattle.history_words.specs.Records.{Record}
use Rattle.history_words.specs.declared.record.RecordOf.TheVariants as records
use Rattle.history_words.specs.TraceView.{TraceView}

abbrev pub log_of : List Record → TraceView
log_of rs = record { base = 0; size = 128; block = 64; records = rs }

-- request k of requester i, and its answer
abbrev pub sub : ℕ → ℕ → Op → Record
sub i k op = records.Sub i k op 0

abbrev pub ans : ℕ → ℕ → Reply → Record
ans i k reply = records.Ans i k reply 0

-- all at the word at address 64

abbrev pub read : Op
read = ops.Read 64 1 15 0

abbrev pub write : ℕ → Op
write x = ops.Write 64 15 0 (record { items = x ∷ 0 ∷ 0 ∷ 0 ∷ [] })

abbrev pub swap : ℕ → Op
swap x = ops.Swap 64 widths.Four x

abbrev pub add : ℕ → Op
add x = ops.FetchAdd 64 widths.Four x

-- a reply with the number x, below 256
abbrev pub value : ℕ → Reply
value x = replies.Data (record { items = x ∷ 0 ∷ 0 ∷ 0 ∷ [] })

-- requester 1 submits a read, and then a posted write of 7; the read is answered 7
abbrev pub write_passes_read : TraceView
write_passes_read = log_of (sub 1 0 read ∷ sub 1 1 (write 7) ∷ ans 1 0 (value 7) ∷ [])

-- a swap for 7 is never answered; a read is answered 7
abbrev pub unanswered_swap : TraceView
unanswered_swap = log_of (sub 1 0 (swap 7) ∷ sub 2 0 read ∷ ans 2 0 (value 7) ∷ [])

-- a swap for 5 is answered 0; a read that is submitted then is answered 0, too
abbrev pub stale_read : TraceView
stale_read = log_of (sub 1 0 (swap 5) ∷ ans 1 0 (value 0) ∷ sub 2 0 read ∷ ans 2 0 (value 0) ∷ [])

-- of two additions of 1 each is answered 0
abbrev pub lost_update : TraceView
lost_update = log_of (sub 1 0 (add 1) ∷ sub 2 0 (add 1) ∷ ans 1 0 (value 0) ∷ ans 2 0 (value 0) ∷ [])
