use Rattle.log_events.proofs.CountLemmas.{unasked}
use Rattle.log_events.proofs.form.Tables.open_at.Goals as goal

pub returns-in_default-clause-none : goal.returns-in_default-clause-none
returns-in_default-clause-none c = λ reply n. unasked c.args.records.now c.args.requester c.args.number n reply c.in_default.ensures.none
