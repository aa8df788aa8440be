use Rattle.std.proofs.Common.{vec_len}
use Rattle.log_runs.specs.Runs.{State}
use Rattle.search_places.specs.Places.{IsPlace}
use Rattle.search_places.specs.Undo.{LeadsBy}
use Rattle.search_forced.proofs.groups.take_back.Given as goal

abbrev pub invariant-loop-done : goal.invariant-loop-done
invariant-loop-done l = record {
  place : IsPlace l.log l.place;
  first : (s : State) × LeadsBy l.log s l.steps.items l.place.state;
  each : (s : State) → LeadsBy l.log s l.fn.steps.items l.fn.place.state → LeadsBy l.log s l.steps.items l.place.state;
}

abbrev pub decreases-loop-done : goal.decreases-loop-done
decreases-loop-done l = vec_len l.steps
