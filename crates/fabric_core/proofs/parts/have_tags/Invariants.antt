use Rattle.std.proofs.Common.{◌≡◌, ℕ, ◌<◌, Some, length}
use Rattle.std.specs.Prelude.{slice_get}
use Rattle.requester_core.specs.RequesterView.{RequesterView}
use Rattle.fabric_core.proofs.parts.have_tags.Given as goal

abbrev pub invariant-loop-requester : goal.invariant-loop-requester
invariant-loop-requester l = (i : ℕ) (q : RequesterView) → i < l.requester-index → slice_get l.requesters i ≡ Some q → length q.open_tags ≡ 256
