use Rattle.linked_engine.proofs.Groups.{more_digits}
use Rattle.linked_engine.proofs.texts.+put_digits.Goals as goal

pub returns-clause-items : goal.returns-clause-items
returns-clause-items t c =
    more_digits c.args.out.now.items c.put_group-2.new.out.items c.put_digits.new.out.items c.args.bytes.now c.put_group-2.ensures.items c.put_digits.ensures.items
