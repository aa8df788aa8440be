use Rattle.std.proofs.Common.{arith}
use Rattle.search_forced.proofs.scene.Scene.is_last.Goals as goal

pub returns : goal.returns
returns c = λ so.
    c.the_last_acts_at_once.ensures c.args.self.log.now c.args.self.place.now.state c.args.request c.in-Some.due (record {
      due = c.in-Some.ensures;
      since = omega (arith, c.if-due-event.false, c.event.ensures);
      may = c.requires.may;
      nobody = c.others_spare.ensures so;
    })
