use Rattle.std.proofs.Common.{◌∙◌, ap}
use Rattle.seq_memory.specs.Limits.{Extent}
use Rattle.search_effects.specs.Effects.{told_of}
use Rattle.search_rules.proofs.PairLemmas.{sub_told}
use Rattle.search_rules.proofs.ByteLemmas.{needs_some, placed_some}
use Rattle.search_rules.proofs.missing.need_at.Goals as goal

pub returns-in-Some-Sub-clause-needs : goal.returns-in-Some-Sub-clause-needs
returns-in-Some-Sub-clause-needs c =
    needs_some c.args.log.now c.args.q c.in-Some-Sub.field-0-0 c.base.result c.in-Some-Sub.op (told_of c.as_ref.result) (c.base.ensures.value ∙ ap (λ (e : Extent). e.base) c.extent.ensures)
    (sub_told c.args.log.now.events c.args.q c.in-Some-Sub.field-0 c.in-Some-Sub.field-0-0 c.in-Some-Sub.op c.in-Some-Sub.reply c.as_ref.result c.in-Some-Sub.field-0-is c.in-Some-Sub.ensures c.as_ref.ensures.value) c.need_of.result c.need_of.ensures.value

pub returns-in-Some-Sub-clause-place : goal.returns-in-Some-Sub-clause-place
returns-in-Some-Sub-clause-place c =
    placed_some c.args.log.now c.args.q c.args.at c.in-Some-Sub.field-0-0 c.base.result c.in-Some-Sub.op (told_of c.as_ref.result) (c.base.ensures.value ∙ ap (λ (e : Extent). e.base) c.extent.ensures)
    (sub_told c.args.log.now.events c.args.q c.in-Some-Sub.field-0 c.in-Some-Sub.field-0-0 c.in-Some-Sub.op c.in-Some-Sub.reply c.as_ref.result c.in-Some-Sub.field-0-is c.in-Some-Sub.ensures c.as_ref.ensures.value) c.need_of.result c.need_of.ensures.place
