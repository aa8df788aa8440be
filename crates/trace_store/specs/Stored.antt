-- Records and entries whose bytes stand in a list with those of others.
use Rattle.std.specs.Prelude.{ℕ, List, map}
use Rattle.seq_memory.specs.Entries.{Entry}
use Rattle.seq_memory.specs.Limits.{Extent}
use Rattle.history_words.specs.Records.{Record}
use Rattle.history_words.specs.declared.record.RecordOf.TheVariants as records
use Rattle.history_words.specs.TraceView.{TraceView}
use Rattle.trace_store.specs.declared.kept.Fields.{Fields}
use Rattle.trace_store.specs.declared.stored.StoredRecord.{StoredRecord}
use Rattle.trace_store.specs.declared.stored.StoredEntry.{StoredEntry}
use Rattle.trace_store.specs.declared.stored.RecordKind.{RecordKind}
use Rattle.trace_store.specs.declared.stored.RecordKind.TheVariants as kinds
use Rattle.trace_store.specs.Kept.{op_in, reply_in, HasOp, HasReply}

-- the record of that kind
abbrev pub record_by : List ℕ → StoredRecord → RecordKind → Record
record_by bytes h (kinds.Sub k) = records.Sub h.requester h.number (op_in bytes k h.fields) h.n
record_by bytes h (kinds.Ans k) = records.Ans h.requester h.number (reply_in bytes k h.fields) h.n

-- the record that is kept
abbrev pub record_in : List ℕ → StoredRecord → Record
record_in bytes h = record_by bytes h h.kind

-- the entry that is kept
abbrev pub entry_in : List ℕ → StoredEntry → Entry
entry_in bytes h = record { requester = h.requester; number = h.number; op = op_in bytes h.kind h.fields }

-- the list has the bytes of an operation or a reply
abbrev pub HasKind : List ℕ → Fields → RecordKind → Type 0
HasKind bytes f (kinds.Sub k) = HasOp bytes k f
HasKind bytes f (kinds.Ans k) = HasReply bytes k f

-- the list has the record's bytes
abbrev pub HasRecord : List ℕ → StoredRecord → Type 0
HasRecord bytes h = HasKind bytes h.fields h.kind

-- the list has the entry's bytes
abbrev pub HasEntry : List ℕ → StoredEntry → Type 0
HasEntry bytes h = HasOp bytes h.kind h.fields

-- what requesters saw, as it is kept
abbrev pub seen_in : Extent → List ℕ → List StoredRecord → TraceView
seen_in x bytes rs = record { base = x.base; size = x.size; block = x.block; records = map (record_in bytes) rs }
