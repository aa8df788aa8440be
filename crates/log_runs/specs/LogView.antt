-- A log as a search sees it.
use Rattle.std.specs.Prelude.{List}
use Rattle.seq_memory.specs.Limits.{Extent}
use Rattle.log_runs.specs.EventView.{EventView}

-- the events of a log over a memory of that base, size and block
pub record LogView : Type 0 where
  pub extent : Extent
  pub events : List EventView
