use Rattle.search_effects.specs.Effects.{told_of}
use Rattle.search_rules.proofs.PairLemmas.{sub_told, due_is_idle, free_is_idle, brings_at, idle_brings}
use Rattle.search_rules.proofs.pairs.never_brings.Goals as goal

pub returns-in-Some-Sub : goal.returns-in-Some-Sub
returns-in-Some-Sub c = λ yes.
    brings_at c.args.log.now c.args.b c.args.q c.in-Some-Sub.field-0-0 c.in-Some-Sub.op (told_of c.as_ref.result)
    (sub_told c.args.log.now.events c.args.b c.in-Some-Sub.field-0 c.in-Some-Sub.field-0-0 c.in-Some-Sub.op c.in-Some-Sub.reply c.as_ref.result c.in-Some-Sub.field-0-is c.in-Some-Sub.ensures c.as_ref.ensures.value) (c.never_brings_by.ensures yes)

pub returns-in-Some-Due : goal.returns-in-Some-Due
returns-in-Some-Due c = λ yes.
    idle_brings c.args.log.now c.args.b c.args.q (due_is_idle c.args.log.now.events c.args.b c.in-Some-Due.field-0 c.in-Some-Due.field-0-0 c.in-Some-Due.field-0-is c.in-Some-Due.ensures)

pub returns-in-Some-Free : goal.returns-in-Some-Free
returns-in-Some-Free c = λ yes.
    idle_brings c.args.log.now c.args.b c.args.q (free_is_idle c.args.log.now.events c.args.b c.in-Some-Free.field-0 c.in-Some-Free.field-0-is c.in-Some-Free.ensures)
