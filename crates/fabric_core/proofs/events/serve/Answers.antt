use Rattle.std.proofs.lemmas.Result.{err_from_is_err_and}
use Rattle.fabric_core.proofs.Answering.{act_refuses}
use Rattle.fabric_core.proofs.events.serve.Goals as goal

pub returns-in_err-at-clause-refuses : goal.returns-in_err-at-clause-refuses
returns-in_err-at-clause-refuses g c =
    let p = err_from_is_err_and c.from_residual.result c.from_residual.ensures.1 in
    rw (p.1, p.2)
    (act_refuses c.args.receiver.now c.args.place c.args.memory.now c.args.sender.now c.in-Some.request.now c.in-Some.mark c.in_err-at.field-0.0 c.in-Some.ensures.item.0 c.in-Some.ensures.item.1 c.in_err-at.ensures.refuses)
