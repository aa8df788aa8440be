use Rattle.std.proofs.Common.{◌∙◌, Some, ap, refl}
use Rattle.std.specs.Prelude.{slice_get}
use Rattle.std.proofs.lemmas.Option.{same_Some}
use Rattle.seq_memory.specs.Limits.{Extent}
use Rattle.search_effects.specs.Effects.{told_of}
use Rattle.search_rules.proofs.PairLemmas.{sub_told, due_is_idle, free_is_idle, brings_at, brings_by, idle_brings}
use Rattle.search_rules.proofs.pairs.never_brings_answered.Goals as goal

pub returns-in-Some-Sub : goal.returns-in-Some-Sub
returns-in-Some-Sub c = λ yes.
    let log = c.args.log.now in
    let answered = c.args.answered in
    brings_at log c.args.b answered.request c.in-Some-Sub.field-0-0 c.in-Some-Sub.op (told_of c.as_ref.result)
    (sub_told log.events c.args.b c.in-Some-Sub.field-0 c.in-Some-Sub.field-0-0 c.in-Some-Sub.op c.in-Some-Sub.reply c.as_ref.result c.in-Some-Sub.field-0-is c.in-Some-Sub.ensures c.as_ref.ensures.value)
    (brings_by log.extent (slice_get log.events answered.request) c.requires.0 c.block.result c.in-Some-Sub.op answered.op.now (told_of c.as_ref.result) (Some answered.reply.now)
    (c.block.ensures.value ∙ ap (λ (e : Extent). e.block) c.extent.ensures) c.requires.1
    (λ base m agrees there r told_it. c.never_brings.ensures yes base m agrees (there answered.reply.now refl) ∙ same_Some answered.reply.now r told_it))

pub returns-in-Some-Due : goal.returns-in-Some-Due
returns-in-Some-Due c = λ yes.
    idle_brings c.args.log.now c.args.b c.args.answered.request (due_is_idle c.args.log.now.events c.args.b c.in-Some-Due.field-0 c.in-Some-Due.field-0-0 c.in-Some-Due.field-0-is c.in-Some-Due.ensures)

pub returns-in-Some-Free : goal.returns-in-Some-Free
returns-in-Some-Free c = λ yes.
    idle_brings c.args.log.now c.args.b c.args.answered.request (free_is_idle c.args.log.now.events c.args.b c.in-Some-Free.field-0 c.in-Some-Free.field-0-is c.in-Some-Free.ensures)
