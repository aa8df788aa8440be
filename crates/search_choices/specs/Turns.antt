-- Which of several requests that are alike acts first.
use Rattle.std.specs.Prelude.{ℕ, ◌+◌, ◌<◌, List, length, nat_lt, cond, slice_index}
use Rattle.log_runs.specs.LogView.{LogView}
use Rattle.log_runs.specs.Runs.{State}
use Rattle.search_rules.specs.Alike.{GoesFirst}

-- the place before which no answer to request b stands; or one behind the log, if that is none of it
abbrev pub turn : LogView → List ℕ → ℕ → ℕ
turn log due b = cond (nat_lt (slice_index due b) (length log.events)) (slice_index due b) (length log.events + b)

-- request p may act in place of b, and its turn is before
pub record Precedes (log : LogView) (s : State) (due : List ℕ) (p b : ℕ) : Type 0 where
  pub first : GoesFirst log s p b
  pub before : turn log due p < turn log due b
