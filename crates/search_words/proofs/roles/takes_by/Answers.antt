use Rattle.std.proofs.Common.{◌∙◌, Some, ap, refl}
use Rattle.seq_memory.specs.Limits.{Extent}
use Rattle.search_effects.specs.Effects.{told_of}
use Rattle.search_words.proofs.RoleLemmas.{finds_by, leaves_by}
use Rattle.search_words.proofs.roles.takes_by.Goals as goal

pub returns-clause-finds : goal.returns-clause-finds
returns-clause-finds c = λ yes.
    finds_by c.args.log.now.extent c.args.one.now c.args.found.op.now (told_of c.args.told) (Some c.args.found.reply.now) c.in-Some.seen.now c.args.found.reply.now
    (ap told_of c.in-Some.is) refl (c.is_served-2.ensures.yes c.if-not-is_served-2.false) (c.finds_alike.ensures c.if-not-finds_alike.false)

pub returns-clause-leaves : goal.returns-clause-leaves
returns-clause-leaves c = λ yes.
    leaves_by c.args.log.now.extent c.block.result c.args.one.now c.args.found.op.now (told_of c.args.told) (Some c.args.found.reply.now) c.args.found.reply.now
    (c.block.ensures.value ∙ ap (λ (e : Extent). e.block) c.extent.ensures) refl (c.is_served.ensures.yes c.if-not-is_served.false) (c.breaks.ensures yes)
