use Rattle.std.proofs.Common.{inl, inr}
use Rattle.search_choices.proofs.Covering.{offers_preceded}
use Rattle.search_choices.proofs.offers.offer.Goals as goal

pub returns-then-is_preceded : goal.returns-then-is_preceded
returns-then-is_preceded c = λ p h.
    offers_preceded c.args.scene.log.now c.args.scene.place.now.state c.args.scene.others.now.due c.args.steps.now.items p c.args.b (inl (c.is_preceded.ensures c.if-is_preceded.true)) h

pub returns-then-is_idle : goal.returns-then-is_idle
returns-then-is_idle c = λ p h.
    offers_preceded c.args.scene.log.now c.args.scene.place.now.state c.args.scene.others.now.due c.args.steps.now.items p c.args.b (inr (c.is_idle.ensures c.if-is_idle.true)) h

pub returns : goal.returns
returns c = λ p h. c.in_ok-look.ensures c.args.scene.others.now.due p h
