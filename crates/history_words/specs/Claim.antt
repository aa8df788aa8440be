-- What a check is asked: whether a history explains what was recorded.
use Rattle.std.specs.Prelude.{List}
use Rattle.seq_memory.specs.Entries.{Entry}
use Rattle.seq_memory.specs.History.{MemoryView}
use Rattle.history_words.specs.Records.{Record}
use Rattle.history_words.specs.TraceView.{TraceView}

-- the memory has the history
pub record Claim : Type 0 where
  pub memory : MemoryView
  pub records : List Record

abbrev pub claim_of : TraceView → List Entry → Claim
claim_of trace h = record {
  memory = record { base = trace.base; size = trace.size; block = trace.block; entries = h };
  records = trace.records;
}
