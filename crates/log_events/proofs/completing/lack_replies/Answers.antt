use Rattle.std.proofs.Common.{◌∙◌, sym}
use Rattle.log_events.specs.Completing as spec
use Rattle.log_events.proofs.Filling.{one_lacks, none_more}
use Rattle.log_events.proofs.completing.lack_replies.Goals as goal

pub returns-then-lacks_reply : goal.returns-then-lacks_reply
returns-then-lacks_reply c = sym (one_lacks spec.lacks_reply c.args.records.now c.loop-place.place (sym c.lacks_reply.ensures ∙ c.if-lacks_reply.true))

pub loop-place-preserved : goal.loop-place-preserved
loop-place-preserved c = none_more spec.lacks_reply c.args.records.now c.loop-place.place c.loop-place.invariant (sym c.lacks_reply.ensures ∙ c.if-lacks_reply.false)
