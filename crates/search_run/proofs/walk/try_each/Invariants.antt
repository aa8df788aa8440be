use Rattle.std.proofs.Common.{◌≡◌, take}
use Rattle.search_run.specs.Frames.{AreLost}
use Rattle.search_run.proofs.walk.try_each.Given as goal

abbrev pub invariant-loop-step : goal.invariant-loop-step
invariant-loop-step l = AreLost l.log l.fn.walk l.walk (take l.step-index l.steps) × (l.walk.work ≡ l.fn.walk.work)
