-- How the search of a walk ended.
use Rattle.std.specs.Prelude.{◌≡◌, length}
use Rattle.log_runs.specs.LogView.{LogView}
use Rattle.log_runs.specs.Runs.{Dead, start}
use Rattle.search_run.specs.declared.exploring.End.{End}
use Rattle.search_run.specs.declared.exploring.End.TheVariants as ends
use Rattle.search_run.specs.declared.walk.Walk.{Walk}
use Rattle.search_run.specs.Frames.{IsAt}

-- a walk that led to the end stands there, one that was given up stands before it, and where none leads there is none
abbrev pub Ends : LogView → Walk → End → Type 0
Ends log w ends.Run = IsAt log w × (w.here.state.event ≡ length log.events)
Ends log w ends.Dead = Dead log (start log)
Ends log w (ends.Limit bound) = IsAt log w × (w.here.state.event ≡ length log.events → ⊥)
