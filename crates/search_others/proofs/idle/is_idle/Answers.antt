use Rattle.std.proofs.Common.{◌≡◌, ◌∙◌, ℕ, List, Some, length, ap, subst, arith}
use Rattle.seq_memory.specs.Limits.{Extent}
use Rattle.seq_memory.specs.Step.{after}
use Rattle.search_effects.specs.Effects.{Agrees}
use Rattle.search_others.proofs.PassLemmas.{sub_at, answer_same, idle_quiet, idle_passed}
use Rattle.search_others.proofs.idle.is_idle.Goals as goal

pub returns-then-is_quiet : goal.returns-then-is_quiet
returns-then-is_quiet c = λ yes.
    let x = c.in-Some-Sub in
    let extent = c.args.log.now.extent in
    let base = c.base-base.ensures.value ∙ ap (λ (e : Extent). e.base) c.extent-extent.ensures in
    let block = c.block-block.ensures.value ∙ ap (λ (e : Extent). e.block) c.extent-extent.ensures in
    idle_quiet c.args.log.now c.args.place.now.state c.args.b x.field-0-0 x.op x.field-0-2 c.reply-reply.result
    (sub_at c.args.log.now.events c.args.b x.field-0 x.field-0-0 x.op x.field-0-2 x.field-0-is x.ensures)
    (c.is_undue.ensures c.if-not-is_undue.false c.args.place.now.state.event)
    (omega (arith, c.if-bytes-size.false, ap length c.bytes.ensures, c.size.ensures.value, ap (λ (e : Extent). e.size) c.extent-extent.ensures))
    (c.reply-reply.ensures ∙ answer_same extent c.base-base.result c.block-block.result c.bytes-2.result.now c.args.place.now.state.bytes x.op base block c.bytes-2.ensures)
    (subst (λ (k : ℕ). (d : ℕ) (m : List ℕ) → Agrees d k m x.op (Some c.reply-reply.result) → after d k m x.op ≡ m) block (c.is_quiet.ensures c.if-is_quiet.true))

pub returns : goal.returns
returns c = λ yes.
    let x = c.in-Some-Sub in
    let extent = c.args.log.now.extent in
    let base = c.base-base.ensures.value ∙ ap (λ (e : Extent). e.base) c.extent-extent.ensures in
    let block = c.block-block.ensures.value ∙ ap (λ (e : Extent). e.block) c.extent-extent.ensures in
    idle_passed c.args.log.now c.args.place.now.state c.args.b x.field-0-0 x.op x.field-0-2 c.reply-reply.result
    (sub_at c.args.log.now.events c.args.b x.field-0 x.field-0-0 x.op x.field-0-2 x.field-0-is x.ensures)
    (c.is_undue.ensures c.if-not-is_undue.false c.args.place.now.state.event)
    (omega (arith, c.if-bytes-size.false, ap length c.bytes.ensures, c.size.ensures.value, ap (λ (e : Extent). e.size) c.extent-extent.ensures))
    (c.reply-reply.ensures ∙ answer_same extent c.base-base.result c.block-block.result c.bytes-2.result.now c.args.place.now.state.bytes x.op base block c.bytes-2.ensures)
    (c.all_pass.ensures yes)
