use Rattle.std.specs.Prelude.{slice_get}
use Rattle.search_effects.specs.Effects.{told_of}
use Rattle.search_rules.proofs.PairLemmas.{sub_told}
use Rattle.search_rules.proofs.NeverLemmas.{quiet_at}
use Rattle.search_rules.proofs.pairs.changes_nothing.Goals as goal

pub returns-in-Some-Sub : goal.returns-in-Some-Sub
returns-in-Some-Sub c = λ yes.
    quiet_at c.args.log.now.extent (slice_get c.args.log.now.events c.args.q) c.in-Some-Sub.field-0-0 c.in-Some-Sub.op (told_of c.as_ref.result)
    (sub_told c.args.log.now.events c.args.q c.in-Some-Sub.field-0 c.in-Some-Sub.field-0-0 c.in-Some-Sub.op c.in-Some-Sub.reply c.as_ref.result c.in-Some-Sub.field-0-is c.in-Some-Sub.ensures c.as_ref.ensures.value) (c.is_quiet.ensures yes)
