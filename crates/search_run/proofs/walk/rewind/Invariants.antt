use Rattle.std.proofs.Common.{◌≡◌, length}
use Rattle.log_runs.specs.Runs.{State}
use Rattle.search_places.specs.Undo.{LeadsBy}
use Rattle.search_run.specs.Frames.{IsBack}
use Rattle.search_run.proofs.walk.rewind.Given as goal

abbrev pub invariant-loop-done : goal.invariant-loop-done
invariant-loop-done l = record {
  back : IsBack l.log l.walk;
  same : l.walk.stack.frames ≡ l.fn.walk.stack.frames;
  led : (s : State) → LeadsBy l.log s l.fn.walk.stack.done l.fn.walk.here.state → LeadsBy l.log s l.walk.stack.done l.walk.here.state;
  work : l.walk.work ≡ l.fn.walk.work;
}

abbrev pub decreases-loop-done : goal.decreases-loop-done
decreases-loop-done l = length l.walk.stack.done
