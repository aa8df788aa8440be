use Rattle.std.proofs.Common.{◌≡◌, length}
use Rattle.search_run.specs.Frames.{IsReady}
use Rattle.search_run.proofs.walk.back.Given as goal

abbrev pub invariant-loop-alloc : goal.invariant-loop-alloc
invariant-loop-alloc l = IsReady l.log l.walk × (l.walk.work ≡ l.fn.walk.work)

abbrev pub decreases-loop-alloc : goal.decreases-loop-alloc
decreases-loop-alloc l = length l.walk.stack.frames
