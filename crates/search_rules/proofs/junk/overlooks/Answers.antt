use Rattle.search_effects.specs.Effects.{told_of}
use Rattle.search_rules.proofs.NeverLemmas.{unserved_overlooks, unseen_overlooks}
use Rattle.search_rules.proofs.junk.overlooks.Goals as goal

pub returns-then-not-is_served : goal.returns-then-not-is_served
returns-then-not-is_served c = λ yes.
    let (r, e) = c.is_served.ensures.no c.if-not-is_served.true in
    unserved_overlooks c.refused_and_read_change_nothing.ensures.refused c.args.log.now.extent c.args.one.now (told_of c.args.told) c.args.other.now r e

pub returns-then-sees_none : goal.returns-then-sees_none
returns-then-sees_none c = λ yes.
    unseen_overlooks c.args.log.now.extent c.args.one.now (told_of c.args.told) c.args.other.now (c.sees_none.ensures.read c.if-sees_none.true) (c.sees_none.ensures.answer c.if-sees_none.true)
