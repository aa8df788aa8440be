use Rattle.std.proofs.Common.{◌∙◌, ap, sym}
use Rattle.std.proofs.lemmas.Option.{same_Some}
use Rattle.search_effects.specs.Effects.{told_of}
use Rattle.search_rules.proofs.PairLemmas.{way_of}
use Rattle.search_rules.proofs.pairs.gives_way.Goals as goal

pub returns-in-Some-clause-brings : goal.returns-in-Some-clause-brings
returns-in-Some-clause-brings c = λ yes base m agrees there r told_it.
    c.yields.ensures.brings yes base m agrees (there c.in-Some.reply.now (ap told_of c.in-Some.is)) ∙ same_Some c.in-Some.reply.now r (sym (ap told_of c.in-Some.is) ∙ told_it)

pub returns-in-Some-clause-order : goal.returns-in-Some-clause-order
returns-in-Some-clause-order c = λ yes base m agrees there.
    way_of base c.args.block m c.args.one.now c.args.other.now (told_of c.args.told) (told_of c.args.asked) c.in-Some.reply.now (ap told_of c.in-Some.is)
    (c.yields.ensures.order yes base m agrees (there c.in-Some.reply.now (ap told_of c.in-Some.is)))
