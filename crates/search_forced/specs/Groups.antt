-- Requests that act in turn from a place.
use Rattle.std.specs.Prelude.{ℕ}
use Rattle.log_runs.specs.declared.Step.TheVariants as steps
use Rattle.log_runs.specs.LogView.{LogView}
use Rattle.log_runs.specs.Runs.{State, MayAct, Leads, next}
use Rattle.search_places.specs.PlaceView.{PlaceView}
use Rattle.search_places.specs.Places.{IsPlace}
use Rattle.search_rules.specs.Rules.{acts}
use Rattle.search_places.specs.Undo.{LeadsBy}
use Rattle.search_forced.specs.declared.groups.Group.{Group}

-- the request and then the others acted in turn from s, which led here
pub record IsGroup (log : LogView) (s : State) (request : ℕ) (group : Group) (here : PlaceView) : Type 0 where
  pub may : MayAct log s request
  pub leads : Leads log (next log s (steps.Act request)) (acts group.others.items) here.state
  pub back : LeadsBy log s group.done.items here.state
  pub place : IsPlace log here
