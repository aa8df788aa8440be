use Rattle.fabric_settle.proofs.ReachedLemmas.{by_shown}
use Rattle.fabric_settle.proofs.witness.happen.Goals as goal

pub returns-in-Ok-clause-reached : goal.returns-in-Ok-clause-reached
returns-in-Ok-clause-reached g c =
    let w = g.W.Witness in
    by_shown (w.saw c.args.line) w.may_lose c.args.fabric.now c.step.new.self (w.kept c.args.witness.now) (w.kept c.prepare.new.witness) (w.kept c.show.new.witness) c.args.event.now c.in-Ok.seen c.show.result c.in-Ok.ensures.ok c.prepare.ensures.kept c.show.ensures.ok c.show.ensures.cause
