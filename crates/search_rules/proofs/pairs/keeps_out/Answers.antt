use Rattle.std.proofs.Common.{◌∙◌, ap, sym}
use Rattle.std.proofs.lemmas.Option.{same_Some}
use Rattle.search_effects.specs.Effects.{told_of}
use Rattle.search_rules.proofs.pairs.keeps_out.Goals as goal

pub returns-in-Some : goal.returns-in-Some
returns-in-Some c = λ yes base m agrees there r told_it.
    c.never_brings.ensures yes base m agrees (there c.in-Some.reply.now (ap told_of c.in-Some.is)) ∙ same_Some c.in-Some.reply.now r (sym (ap told_of c.in-Some.is) ∙ told_it)
