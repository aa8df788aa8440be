-- Logs that lines can tell.
use Rattle.std.specs.Prelude.{All}
use Rattle.seq_memory.specs.Limits.{IsWithinLimits}
use Rattle.history_words.specs.TraceView.{TraceView, observed}
use Rattle.log_text.specs.ToldSubmissions.{IsToldSub}

-- lines can tell the memory, and each submission
pub record IsToldLog (t : TraceView) : Type 0 where
  pub limits : IsWithinLimits (observed t)
  pub submissions : All IsToldSub t.records
