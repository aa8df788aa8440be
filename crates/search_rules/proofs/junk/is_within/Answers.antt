use Rattle.search_rules.proofs.PairLemmas.{sub_at}
use Rattle.search_rules.proofs.MissLemmas.{within_at}
use Rattle.search_rules.proofs.junk.is_within.Goals as goal

pub returns-in-Some-Sub : goal.returns-in-Some-Sub
returns-in-Some-Sub c = λ yes.
    within_at c.args.log.now c.args.g c.args.q c.in-Some-Sub.field-0-0 c.in-Some-Sub.op c.in-Some-Sub.field-0-2
    (sub_at c.args.log.now.events c.args.g c.in-Some-Sub.field-0 c.in-Some-Sub.field-0-0 c.in-Some-Sub.op c.in-Some-Sub.field-0-2 c.in-Some-Sub.field-0-is c.in-Some-Sub.ensures) (c.is_within_by.ensures yes)
