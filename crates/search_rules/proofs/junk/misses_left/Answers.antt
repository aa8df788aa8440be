use Rattle.std.proofs.Common.{◌∙◌, ap}
use Rattle.seq_memory.specs.Limits.{Extent}
use Rattle.search_effects.specs.Effects.{told_of}
use Rattle.search_rules.proofs.MissLemmas.{left_by}
use Rattle.search_rules.proofs.junk.misses_left.Goals as goal

pub returns : goal.returns
returns c = λ yes.
    left_by c.args.log.now.extent c.block.result c.args.one.now c.args.third.now (told_of c.args.told) (told_of c.args.had) c.in-Some.reply.now
    (c.block.ensures.value ∙ ap (λ (e : Extent). e.block) c.extent.ensures) (ap told_of c.in-Some.is) (c.is_served.ensures.yes c.if-not-is_served.false) (c.breaks.ensures yes)
