use Rattle.search_effects.specs.Effects.{told_of}
use Rattle.search_rules.proofs.PairLemmas.{sub_told}
use Rattle.search_rules.proofs.IdleLemmas.{junk_behind}
use Rattle.search_rules.proofs.idle.is_junk_behind.Goals as goal

pub returns-in-Some-Sub : goal.returns-in-Some-Sub
returns-in-Some-Sub c = λ yes.
    junk_behind c.args.log.now c.args.q c.in-Some-Sub.field-0-0 c.in-Some-Sub.op c.args.made.op.now (told_of c.as_ref.result) c.args.made.reply.now
    (sub_told c.args.log.now.events c.args.q c.in-Some-Sub.field-0 c.in-Some-Sub.field-0-0 c.in-Some-Sub.op c.in-Some-Sub.reply c.as_ref.result c.in-Some-Sub.field-0-is c.in-Some-Sub.ensures c.as_ref.ensures.value) (c.leaves_junk.ensures yes)
