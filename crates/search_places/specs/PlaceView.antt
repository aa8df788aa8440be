-- A place of the search.
use Rattle.std.specs.Prelude.{ℕ, List}
use Rattle.log_runs.specs.Runs.{State}

-- a state, the requests that were passed and haven't acted, and those of them that are posted writes
pub record PlaceView : Type 0 where
  pub state : State
  pub pending : List ℕ
  pub posts : List ℕ
