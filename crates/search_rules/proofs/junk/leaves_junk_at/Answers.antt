use Rattle.search_effects.specs.Effects.{told_of}
use Rattle.search_rules.proofs.PairLemmas.{sub_told}
use Rattle.search_rules.proofs.MissLemmas.{leaves_at}
use Rattle.search_rules.proofs.junk.leaves_junk_at.Goals as goal

pub returns-in-Some-Sub : goal.returns-in-Some-Sub
returns-in-Some-Sub c = λ yes.
    leaves_at c.args.log.now c.args.b c.args.g c.args.word c.in-Some-Sub.field-0-0 c.in-Some-Sub.op (told_of c.as_ref.result)
    (sub_told c.args.log.now.events c.args.b c.in-Some-Sub.field-0 c.in-Some-Sub.field-0-0 c.in-Some-Sub.op c.in-Some-Sub.reply c.as_ref.result c.in-Some-Sub.field-0-is c.in-Some-Sub.ensures c.as_ref.ensures.value) (c.leaves_junk_by.ensures yes)
