use Rattle.std.proofs.Common.{arith}
use Rattle.search_forced.proofs.scene.Scene.is_first.Goals as goal

pub returns : goal.returns
returns c = λ so.
    c.the_first_acts_at_once.ensures c.args.self.log.now c.args.self.place.now.state c.args.request c.in-Some.awaited c.in-Some.due (record {
      due = c.in-Some.ensures;
      since = omega (arith, c.if-due-event.false, c.event.ensures);
      follows = c.follows.ensures c.if-not-follows.false;
      left = c.is_left.ensures c.if-not-is_left.false;
      may = c.requires.may;
      others = c.others_spare.ensures so;
    })
