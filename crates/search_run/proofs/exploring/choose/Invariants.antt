use Rattle.std.proofs.Common.{◌≤◌, ◌-◌, ◌*◌}
use Rattle.search_run.specs.Frames.{IsAt}
use Rattle.search_run.specs.Watched.{Is, Saw}
use Rattle.search_run.proofs.exploring.choose.Given as goal

abbrev pub invariant-loop-states : goal.invariant-loop-states
invariant-loop-states g l = IsAt l.log l.walk × Saw g.W.Watch.sees (Is l.log) l.states l.fn.watch l.watch × (l.walk.work ≤ l.fn.walk.work - 256 * l.states)
