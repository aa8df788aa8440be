use Rattle.std.proofs.Common.{◌∙◌, ap}
use Rattle.seq_memory.specs.Limits.{Extent}
use Rattle.search_rules.proofs.NeverLemmas.{not_true, refused_unanswered, served_unanswered}
use Rattle.search_rules.proofs.answers.is_unanswerable.Goals as goal

pub returns-in-Some : goal.returns-in-Some
returns-in-Some c = λ yes.
    refused_unanswered c.args.log.now.extent c.base.result c.size.result c.block.result c.args.op.now c.args.reply.now c.refusal_lent.result
    (c.base.ensures.value ∙ ap (λ (e : Extent). e.base) c.extent-extent.ensures) (c.size.ensures.value ∙ ap (λ (e : Extent). e.size) c.extent-extent.ensures)
    (c.block.ensures.value ∙ ap (λ (e : Extent). e.block) c.extent-extent.ensures) c.refusal_lent.ensures.value
    c.in-Some.refused c.in-Some.is (c.is_refusal.ensures (not_true c.is_refusal.result yes))

pub returns-in-None : goal.returns-in-None
returns-in-None c = λ yes.
    served_unanswered c.args.log.now.extent c.base.result c.size.result c.block.result c.args.op.now c.args.reply.now c.refusal_lent.result
    (c.base.ensures.value ∙ ap (λ (e : Extent). e.base) c.extent-extent.ensures) (c.size.ensures.value ∙ ap (λ (e : Extent). e.size) c.extent-extent.ensures)
    (c.block.ensures.value ∙ ap (λ (e : Extent). e.block) c.extent-extent.ensures) c.refusal_lent.ensures.value
    c.in-None.is (c.is_never_answered.ensures yes)
