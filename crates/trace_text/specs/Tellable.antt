-- What the text of a trace can tell.
use Rattle.std.specs.Prelude.{ℕ, ◌-◌, ◌^◌, ◌≤◌, ◌<◌, All}
use Rattle.tlp_core.specs.Limits.{most_requesters}
use Rattle.seq_memory.specs.Limits.{IsWithinLimits}
use Rattle.seq_memory.specs.History.{extent_of}
use Rattle.seq_memory.specs.Entries.{Entry}
use Rattle.history_words.specs.Records.{Record}
use Rattle.history_words.specs.declared.record.RecordOf.TheVariants as records
use Rattle.history_words.specs.Claim.{Claim}
use Rattle.operation_text.specs.Operations.{IsSpelledOp, IsSpelledReply}

-- request k of requester i: requesters are 1 to 7, and numbers below 2^32 - 1
abbrev pub IsRequest : ℕ → ℕ → Type 0
IsRequest i k = (1 ≤ i) × (i ≤ most_requesters) × (k < 2 ^ 32 - 1)

abbrev pub IsTellableRecord : Record → Type 0
IsTellableRecord (records.Sub i k op n) = IsRequest i k × (n < 2 ^ 64) × IsSpelledOp op
IsTellableRecord (records.Ans i k reply n) = IsRequest i k × (n < 2 ^ 64) × IsSpelledReply reply

abbrev pub IsTellableEntry : Entry → Type 0
IsTellableEntry e = IsRequest e.requester e.number × IsSpelledOp e.op

pub record IsTellable (c : Claim) : Type 0 where
  pub limits : IsWithinLimits (extent_of c.memory)
  pub records_are : All IsTellableRecord c.records
  pub entries_are : All IsTellableEntry c.memory.entries
