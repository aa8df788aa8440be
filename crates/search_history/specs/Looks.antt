-- What a search that was given up looked at.
use Rattle.std.specs.Prelude.{ℕ, ◌≡◌, ◌⊎◌, List, length}
use Rattle.history_words.specs.TraceView.{TraceView, observed}
use Rattle.log_runs.specs.EventView.{EventView}
use Rattle.log_runs.specs.LogView.{LogView}
use Rattle.log_runs.specs.Runs.{State}
use Rattle.log_runs.specs.Tasks.{AreAllEvents, IsWellFormed}
use Rattle.log_cells.specs.Parts.{AreKept}
use Rattle.search_run.specs.Watched.{IsReached, Saw, Stands}
use Rattle.search_history.specs.Prepared.{IsLogOf}

-- the part has the events of the log that are on some bytes of the memory, each with its name
pub record IsOn (log part : LogView) : Type 0 where
  pub low : ℕ
  pub high : ℕ
  pub names : List ℕ
  pub kept : AreKept log.events names low high part.events (length names)

-- it is the log, or a part of it on some bytes
abbrev pub IsUnder : LogView → LogView → Type 0
IsUnder log part = (part ≡ log) ⊎ IsOn log part

-- so it is, or a part of such a part
abbrev pub IsPartOf : LogView → LogView → Type 0
IsPartOf log part = (part ≡ log) ⊎ IsOn log part ⊎ ((group : LogView) × IsOn log group × IsOn group part)

-- it was x, and is y since it saw so many choices more, of the log of the first records
pub record SawOf {A : Type 0} (sees : LogView → State → A → A → Type 0) (t : TraceView) (n : ℕ) (x y : A) : Type 0 where
  pub log : LogView
  pub count : ℕ
  pub of : IsLogOf t count log
  pub saw : Saw sees (IsPartOf log) n x y

-- a state that is reached in the log, or in a part of it, before the end
pub record Look (log : LogView) : Type 0 where
  pub part : LogView
  pub of : IsPartOf log part
  pub place : State
  pub reached : IsReached part place

-- so many choices were looked at
pub record AreLooks (t : TraceView) (n : ℕ) : Type 0 where
  pub log : LogView
  pub count : ℕ
  pub of : IsLogOf t count log
  pub looks : List (Look log)
  pub as_many : length looks ≡ n

-- the form of the records is right, and steps lead from the start of their log to a state before its end
pub record IsStopped (t : TraceView) : Type 0 where
  pub formed : IsWellFormed t.records
  pub events : List EventView
  pub all : AreAllEvents t.records events
  pub stands : Stands (record { extent = observed t; events = events })
