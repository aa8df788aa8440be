use Rattle.search_rules.proofs.PairLemmas.{sub_at}
use Rattle.search_rules.proofs.junk.is_within_by.Goals as goal

pub returns-in-Some-Sub : goal.returns-in-Some-Sub
returns-in-Some-Sub c = λ yes.
    (c.in-Some-Sub.field-0-0, c.in-Some-Sub.op, c.in-Some-Sub.field-0-2, sub_at c.args.log.now.events c.args.q c.in-Some-Sub.field-0 c.in-Some-Sub.field-0-0 c.in-Some-Sub.op c.in-Some-Sub.field-0-2 c.in-Some-Sub.field-0-is c.in-Some-Sub.ensures, (c.spans.ensures.low yes, c.spans.ensures.high yes))
