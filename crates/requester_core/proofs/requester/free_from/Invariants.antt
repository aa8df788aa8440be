use Rattle.std.proofs.Common.{◌-◌, ◌≤◌, length}
use Rattle.requester_core.specs.RequesterView.{lowest_free}
use Rattle.requester_core.proofs.requester.free_from.Given as goal

abbrev pub invariant-loop-place : goal.invariant-loop-place
invariant-loop-place l = l.place ≤ lowest_free l.tags

abbrev pub decreases-loop-place : goal.decreases-loop-place
decreases-loop-place l = length l.tags - l.place
