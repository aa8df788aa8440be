use Rattle.search_rules.specs.Rules.{LeavesNothing}
use Rattle.search_forced.proofs.GroupLemmas.{all_with}
use Rattle.search_forced.proofs.scene.Scene.all_leave_nothing.Goals as goal

pub returns : goal.returns
returns c = λ so.
    all_with (LeavesNothing c.args.self.log.now c.args.self.place.now.state c.args.request) c.args.request c.args.others.now (c.leaves_nothing.ensures c.if-not-leaves_nothing.false) (c.leave_nothing.ensures so)
