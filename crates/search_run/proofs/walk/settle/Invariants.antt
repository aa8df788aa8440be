use Rattle.std.proofs.Common.{◌≤◌}
use Rattle.search_run.specs.Frames.{IsAt}
use Rattle.search_run.proofs.walk.settle.Given as goal

abbrev pub invariant-loop-step : goal.invariant-loop-step
invariant-loop-step l = IsAt l.log l.walk × (l.walk.work ≤ l.fn.walk.work)
