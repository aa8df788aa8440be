use Rattle.std.proofs.Common.{◌∙◌}
use Rattle.linked_engine.proofs.Groups.{two_pairs}
use Rattle.linked_engine.proofs.texts.put_pairs.Goals as goal

pub returns-clause-items : goal.returns-clause-items
returns-clause-items c =
    two_pairs c.args.out.now.items c.put.new.out.items c.put-2.new.out.items c.as_bytes.result.now c.as_bytes-2.result.now c.args.number.now c.if-number-ne2.false
    (c.as_bytes.ensures.value ∙ c.pair_of.ensures.text) (c.as_bytes-2.ensures.value ∙ c.pair_of-2.ensures.text) c.put.ensures.items c.put-2.ensures.items
