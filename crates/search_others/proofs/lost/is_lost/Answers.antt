use Rattle.std.proofs.Common.{◌∙◌, arith}
use Rattle.std.specs.Prelude.{slice_get}
use Rattle.search_others.proofs.Suiting.{clash}
use Rattle.search_others.proofs.Suiting.{suits_is}
use Rattle.search_others.proofs.lost.is_lost.Goals as goal

pub returns-then-others_spare : goal.returns-then-others_spare
returns-then-others_spare c = λ so.
    let s = c.args.place.now.state in
    c.lost_is_dead.ensures c.args.log.now s c.args.q c.in-Some.a (record {
      due = c.in-Some.ensures;
      since = omega (arith, c.if-a-event.false, c.event.ensures);
      left = c.is_left.ensures c.if-not-is_left.false;
      gone = λ there. clash (c.suits.ensures ∙ suits_is c.what_was_told_is_told.ensures c.args.log.now s.bytes (slice_get c.args.log.now.events c.args.q) there) c.if-suits.false;
      nobody = c.others_spare.ensures c.if-others_spare.true;
    })
