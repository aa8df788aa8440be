-- The history that a run is, and the n's and replies that belong to it.
use Rattle.std.specs.Prelude.{ℕ, suc, if◌then◌else◌, List, [], ◌∷◌, map, replicate, Option, Some, None, slice_get, option_and_then}
use Rattle.std.specs.List.{cons_option}
use Rattle.seq_memory.specs.Entries.{Entry}
use Rattle.seq_memory.specs.Entries.{Reply}
use Rattle.seq_memory.specs.declared.reply.ReplyOf.TheVariants as replies
use Rattle.seq_memory.specs.Limits.{Extent}
use Rattle.seq_memory.specs.Step.{after, answer}
use Rattle.history_words.specs.Records.{Record}
use Rattle.history_words.specs.declared.record.RecordOf.TheVariants as records
use Rattle.history_words.specs.Trace.{is_request}
use Rattle.history_words.specs.TraceView.{TraceView, observed}
use Rattle.trace_store.specs.Changes.{with_n, submitted}
use Rattle.log_runs.specs.declared.Step.{Step}
use Rattle.log_runs.specs.declared.Step.TheVariants as steps

-- the requests in the order in which they act
abbrev pub history_of : List Record → List Step → List Entry
history_of rs [] = []
history_of rs (steps.Pass ∷ xs) = history_of rs xs
history_of rs (steps.Act b ∷ xs) = cons_option (option_and_then submitted (slice_get rs b)) (history_of rs xs)

-- each record that is passed with the number of requests that acted before, so many of them before these steps
abbrev pub timed_from : ℕ → List Step → List Record → List Record
timed_from acted [] rs = rs
timed_from acted (steps.Act b ∷ xs) rs = timed_from (suc acted) xs rs
timed_from acted (steps.Pass ∷ xs) [] = []
timed_from acted (steps.Pass ∷ xs) (r ∷ rs) = with_n acted r ∷ timed_from acted xs rs

abbrev pub timed : List Step → TraceView → TraceView
timed xs t = record { base = t.base; size = t.size; block = t.block; records = timed_from 0 xs t.records }

-- the record; if it has only that the entry's request was done, with that reply
abbrev pub with_answer : Entry → Reply → Record → Record
with_answer e made (records.Sub i k op n) = records.Sub i k op n
with_answer e made (records.Ans i k replies.Done n) = records.Ans i k (if is_request i k e then made else replies.Done) n
with_answer e made (records.Ans i k (replies.Data bytes) n) = records.Ans i k (replies.Data bytes) n
with_answer e made (records.Ans i k replies.Unsupported n) = records.Ans i k replies.Unsupported n
with_answer e made (records.Ans i k replies.Aborted n) = records.Ans i k replies.Aborted n

-- the record; if it has only that a request was done, with the reply of the memory, which has these bytes before the history
abbrev pub completed : Extent → List ℕ → List Entry → Record → Record
completed x m [] r = r
completed x m (e ∷ h) r = completed x (after x.base x.block m e.op) h (with_answer e (answer x.base x.block m e.op) r)

-- the records with the replies of the history
abbrev pub with_replies : List Entry → TraceView → TraceView
with_replies h t = record { base = t.base; size = t.size; block = t.block; records = map (completed (observed t) (replicate t.size 0) h) t.records }
