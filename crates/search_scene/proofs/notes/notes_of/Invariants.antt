use Rattle.std.proofs.Common.{◌≤◌, length}
use Rattle.search_scene.proofs.notes.notes_of.Given as goal

abbrev pub invariant-loop-end : goal.invariant-loop-end
invariant-loop-end l = length l.rest ≤ length l.told

abbrev pub decreases-loop-end : goal.decreases-loop-end
decreases-loop-end l = length l.rest
