use Rattle.std.proofs.Common.{◌≡◌, ◌++◌, length}
use Rattle.search_run.specs.Trails.{steps_by}
use Rattle.search_run.proofs.stack.add_steps.Given as goal

abbrev pub invariant-loop-step : goal.invariant-loop-step
invariant-loop-step l = l.steps.items ++ steps_by l.rest ≡ l.fn.steps.items ++ steps_by l.trail

abbrev pub decreases-loop-step : goal.decreases-loop-step
decreases-loop-step l = length l.rest
