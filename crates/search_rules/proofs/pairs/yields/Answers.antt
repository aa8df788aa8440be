use Rattle.search_effects.specs.Effects.{told_of}
use Rattle.search_rules.proofs.PairLemmas.{sub_told, due_is_idle, free_is_idle, brings_at, yields_at, idle_brings, idle_yields}
use Rattle.search_rules.proofs.pairs.yields.Goals as goal

pub returns-in-Some-Sub-clause-brings : goal.returns-in-Some-Sub-clause-brings
returns-in-Some-Sub-clause-brings c = λ yes.
    brings_at c.args.log.now c.args.b c.args.q c.in-Some-Sub.field-0-0 c.in-Some-Sub.op (told_of c.as_ref.result)
    (sub_told c.args.log.now.events c.args.b c.in-Some-Sub.field-0 c.in-Some-Sub.field-0-0 c.in-Some-Sub.op c.in-Some-Sub.reply c.as_ref.result c.in-Some-Sub.field-0-is c.in-Some-Sub.ensures c.as_ref.ensures.value) (c.yields_by.ensures.brings yes)

pub returns-in-Some-Sub-clause-order : goal.returns-in-Some-Sub-clause-order
returns-in-Some-Sub-clause-order c = λ yes.
    yields_at c.args.log.now c.args.b c.args.q c.in-Some-Sub.field-0-0 c.in-Some-Sub.op (told_of c.as_ref.result)
    (sub_told c.args.log.now.events c.args.b c.in-Some-Sub.field-0 c.in-Some-Sub.field-0-0 c.in-Some-Sub.op c.in-Some-Sub.reply c.as_ref.result c.in-Some-Sub.field-0-is c.in-Some-Sub.ensures c.as_ref.ensures.value) (c.yields_by.ensures.order yes)

pub returns-in-Some-Due-clause-brings : goal.returns-in-Some-Due-clause-brings
returns-in-Some-Due-clause-brings c = λ yes.
    idle_brings c.args.log.now c.args.b c.args.q (due_is_idle c.args.log.now.events c.args.b c.in-Some-Due.field-0 c.in-Some-Due.field-0-0 c.in-Some-Due.field-0-is c.in-Some-Due.ensures)

pub returns-in-Some-Due-clause-order : goal.returns-in-Some-Due-clause-order
returns-in-Some-Due-clause-order c = λ yes.
    idle_yields c.args.log.now c.args.b c.args.q (due_is_idle c.args.log.now.events c.args.b c.in-Some-Due.field-0 c.in-Some-Due.field-0-0 c.in-Some-Due.field-0-is c.in-Some-Due.ensures)

pub returns-in-Some-Free-clause-brings : goal.returns-in-Some-Free-clause-brings
returns-in-Some-Free-clause-brings c = λ yes.
    idle_brings c.args.log.now c.args.b c.args.q (free_is_idle c.args.log.now.events c.args.b c.in-Some-Free.field-0 c.in-Some-Free.field-0-is c.in-Some-Free.ensures)

pub returns-in-Some-Free-clause-order : goal.returns-in-Some-Free-clause-order
returns-in-Some-Free-clause-order c = λ yes.
    idle_yields c.args.log.now c.args.b c.args.q (free_is_idle c.args.log.now.events c.args.b c.in-Some-Free.field-0 c.in-Some-Free.field-0-is c.in-Some-Free.ensures)
