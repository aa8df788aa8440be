-- What was seen, and changes of records and histories.
use Rattle.std.specs.Prelude.{ℕ, List, [], ◌∷◌, Option, Some, None, slice_get}
use Rattle.seq_memory.specs.Entries.{Entry, Reply}
use Rattle.history_words.specs.Claim.{Claim}
use Rattle.history_words.specs.Records.{Record}
use Rattle.history_words.specs.TraceView.{TraceView}
use Rattle.history_words.specs.declared.record.RecordOf.TheVariants as records

-- what requesters saw, without the history
abbrev pub seen_by : Claim → TraceView
seen_by c = record { base = c.memory.base; size = c.memory.size; block = c.memory.block; records = c.records }

-- the request that the record submits
abbrev pub submitted : Record → Option Entry
submitted (records.Sub i k op n) = Some (record { requester = i; number = k; op = op })
submitted (records.Ans i k reply n) = None

-- the record, but with that n
abbrev pub with_n : ℕ → Record → Record
with_n n (records.Sub i k op m) = records.Sub i k op n
with_n n (records.Ans i k reply m) = records.Ans i k reply n

-- the record with that reply, if it is an answer
abbrev pub with_reply : Record → Reply → Record
with_reply (records.Sub i k op n) reply = records.Sub i k op n
with_reply (records.Ans i k told n) reply = records.Ans i k reply n

-- the entry of the request that the record submits, if it is a submission
abbrev pub entry_of : Option Record → List Entry
entry_of (Some (records.Sub i k op n)) = (record { requester = i; number = k; op = op }) ∷ []
entry_of (Some (records.Ans i k reply n)) = []
entry_of None = []

abbrev pub entry_at : List Record → ℕ → List Entry
entry_at rs place = entry_of (slice_get rs place)
