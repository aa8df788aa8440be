-- What an outcome says.
use Rattle.std.specs.Prelude.{◌≡◌, List, length}
use Rattle.log_runs.specs.declared.Step.{Step}
use Rattle.log_runs.specs.LogView.{LogView}
use Rattle.log_runs.specs.Runs.{State, Leads, Dead, start}
use Rattle.search_run.specs.Watched.{Stands}
use Rattle.search_run.specs.declared.exploring.Outcome.{Outcome}
use Rattle.search_run.specs.declared.exploring.Outcome.TheVariants as outcomes

-- the steps lead from the start to the end
pub record IsRun (log : LogView) (xs : List Step) : Type 0 where
  pub last : State
  pub leads : Leads log (start log) xs last
  pub over : last.event ≡ length log.events

-- a run is one, where none is told there is none, and a bound ends a search at a state that is reached, before the end
abbrev pub IsRight : LogView → Outcome → Type 0
IsRight log (outcomes.Run xs) = IsRun log xs.items
IsRight log outcomes.Dead = Dead log (start log)
IsRight log (outcomes.Limit bound) = Stands log
