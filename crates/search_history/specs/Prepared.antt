-- Records as a search sees them.
use Rattle.std.specs.Prelude.{ℕ, ◌≡◌, length, take}
use Rattle.history_words.specs.TraceView.{TraceView, observed}
use Rattle.log_runs.specs.LogView.{LogView}
use Rattle.log_runs.specs.Tasks.{AreAllEvents, AreEvents, IsWellFormed}

-- the log has the events of the first records, over their memory
pub record IsLogOf (t : TraceView) (count : ℕ) (log : LogView) : Type 0 where
  pub events : AreEvents (take count t.records) log.events
  pub extent : log.extent ≡ observed t

-- the same of all records: their form is right, and the events say all
pub record IsWholeLog (t : TraceView) (log : LogView) : Type 0 where
  pub of : IsLogOf t (length t.records) log
  pub formed : IsWellFormed (take (length t.records) t.records)
  pub all : AreAllEvents (take (length t.records) t.records) log.events
