use Rattle.std.proofs.Common.{◌∙◌, ap}
use Rattle.std.specs.Prelude.{slice_get}
use Rattle.seq_memory.specs.Limits.{Extent}
use Rattle.search_effects.specs.Effects.{told_of}
use Rattle.search_rules.proofs.PairLemmas.{sub_told, brings_by, yields_by}
use Rattle.search_rules.proofs.pairs.yields_by.Goals as goal

pub returns-in-Some-Sub-clause-brings : goal.returns-in-Some-Sub-clause-brings
returns-in-Some-Sub-clause-brings c = λ yes.
    brings_by c.args.log.now.extent (slice_get c.args.log.now.events c.args.q) c.in-Some-Sub.field-0-0 c.block.result c.args.one.now c.in-Some-Sub.op (told_of c.args.told) (told_of c.as_ref.result) (c.block.ensures.value ∙ ap (λ (e : Extent). e.block) c.extent.ensures)
    (sub_told c.args.log.now.events c.args.q c.in-Some-Sub.field-0 c.in-Some-Sub.field-0-0 c.in-Some-Sub.op c.in-Some-Sub.reply c.as_ref.result c.in-Some-Sub.field-0-is c.in-Some-Sub.ensures c.as_ref.ensures.value) (c.gives_way.ensures.brings yes)

pub returns-in-Some-Sub-clause-order : goal.returns-in-Some-Sub-clause-order
returns-in-Some-Sub-clause-order c = λ yes.
    yields_by c.args.log.now.extent (slice_get c.args.log.now.events c.args.q) c.in-Some-Sub.field-0-0 c.block.result c.args.one.now c.in-Some-Sub.op (told_of c.args.told) (told_of c.as_ref.result) (c.block.ensures.value ∙ ap (λ (e : Extent). e.block) c.extent.ensures)
    (sub_told c.args.log.now.events c.args.q c.in-Some-Sub.field-0 c.in-Some-Sub.field-0-0 c.in-Some-Sub.op c.in-Some-Sub.reply c.as_ref.result c.in-Some-Sub.field-0-is c.in-Some-Sub.ensures c.as_ref.ensures.value) (c.gives_way.ensures.order yes)
