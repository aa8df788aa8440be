use Rattle.std.proofs.Common.{arith}
use Rattle.std.proofs.lemmas.Option.{slice_get_within}
use Rattle.search_rules.specs.Rules.{LeavesNothing}
use Rattle.search_forced.proofs.GroupLemmas.{each_next}
use Rattle.search_forced.proofs.scene.Scene.leave_nothing.Goals as goal

pub loop-member-preserved : goal.loop-member-preserved
loop-member-preserved c =
    each_next (LeavesNothing c.args.self.log.now c.args.self.place.now.state c.args.request) c.args.members.now c.loop-member.member-index (c.leaves_nothing.ensures c.if-not-leaves_nothing.false) c.loop-member.invariant

pub returns : goal.returns
returns c = λ so i member at. c.loop-member.invariant i member (omega (arith, slice_get_within c.args.members.now i member at, c.loop-member-test.false)) at
