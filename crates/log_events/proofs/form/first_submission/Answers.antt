use Rattle.std.proofs.Common.{arith}
use Rattle.log_events.specs.Formed.{submits}
use Rattle.log_events.proofs.CountLemmas.{none_more}
use Rattle.log_events.proofs.form.first_submission.Goals as goal

pub loop-at-preserved : goal.loop-at-preserved
loop-at-preserved c =
    none_more (submits c.args.requester c.args.number) c.args.records.now c.loop-at.at c.submits.result (omega (arith, c.loop-at-test.true, c.loop-at.auto.at-end, c.len-at-end.ensures)) c.loop-at.invariant c.submits.ensures.value c.if-submits.false
