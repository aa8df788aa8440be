use Rattle.search_choices.proofs.Covering.{clash, offers_act, offers_none}
use Rattle.search_choices.proofs.offers.look.Goals as goal

pub returns-then-waits_for : goal.returns-then-waits_for
returns-then-waits_for c = λ due p h.
    offers_none c.args.log.now c.args.place.now.state due c.args.steps.now.items p c.args.b (c.waits_for.ensures.shut c.if-waits_for.true) h

pub returns-then-not-may_act : goal.returns-then-not-may_act
returns-then-not-may_act c = λ due p h.
    offers_none c.args.log.now c.args.place.now.state due c.args.steps.now.items p c.args.b (λ m. clash (c.may_act.ensures.1 m) c.if-not-may_act.true) h

pub returns : goal.returns
returns c = λ due p h.
    offers_act c.args.log.now c.args.place.now.state due c.args.steps.now.items c.push.new.self.items p c.args.b c.in_ok-push.ensures.items (c.may_act.ensures.0 c.if-not-may_act.false) h
