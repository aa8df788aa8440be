use Rattle.search_forced.proofs.GroupLemmas.{joined}
use Rattle.search_forced.proofs.groups.Group.join.Goals as goal

pub returns : goal.returns
returns c =
    joined c.args.log.now c.args.other c.args.self.now (record { done = c.push.new.self; others = c.push-2.new.self }) c.args.place.now c.take.new.self c.in_ok-one.one c.requires.may
    c.in_ok-one.ensures.came c.in_ok-one.ensures.step c.in_ok-push.ensures.items c.in_ok-push-2.ensures.items c.in_ok-one.ensures.place
