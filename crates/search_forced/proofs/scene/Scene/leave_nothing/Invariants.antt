use Rattle.std.proofs.Common.{◌≡◌, ℕ, ◌<◌, Some}
use Rattle.std.specs.Prelude.{slice_get}
use Rattle.search_rules.specs.Rules.{LeavesNothing}
use Rattle.search_forced.proofs.scene.Scene.leave_nothing.Given as goal

abbrev pub invariant-loop-member : goal.invariant-loop-member
invariant-loop-member l = (i member : ℕ) → i < l.member-index → slice_get l.members i ≡ Some member → LeavesNothing l.self.log.now l.self.place.now.state l.request member
