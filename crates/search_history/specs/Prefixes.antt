-- Prefixes with a history, and without one.
use Rattle.std.specs.Prelude.{ℕ, ◌<◌, ◌≤◌, length}
use Rattle.history_words.specs.TraceView.{TraceView}
use Rattle.log_runs.specs.Explainable.{IsExplainable, prefix}

-- so many records have no history
pub record IsUnexplained (t : TraceView) (count : ℕ) : Type 0 where
  pub within : count ≤ length t.records
  pub unexplained : IsExplainable (prefix count t) → ⊥

-- so many records, which are fewer, have a history
pub record IsExplainedBefore (t : TraceView) (count before : ℕ) : Type 0 where
  pub fewer : before < count
  pub explained : IsExplainable (prefix before t)
