use Rattle.search_effects.specs.Effects.{told_of}
use Rattle.search_rules.proofs.MissLemmas.{left_among}
use Rattle.search_rules.proofs.junk.misses_there.Goals as goal

pub returns : goal.returns
returns c = λ yes.
    left_among c.args.log.now.extent c.args.one.op.now c.args.other.now c.args.third.op.now (told_of c.args.one.told) (told_of c.args.third.told)
    (c.spans.ensures.low c.if-not-spans.false) (c.spans.ensures.high c.if-not-spans.false) (c.misses_left.ensures yes)
