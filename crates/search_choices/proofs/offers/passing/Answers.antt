use Rattle.search_choices.proofs.Covering.{clash, offers_pass, offers_nothing}
use Rattle.search_choices.proofs.offers.passing.Goals as goal

pub returns-then-not-may_pass : goal.returns-then-not-may_pass
returns-then-not-may_pass c = λ due.
    offers_nothing c.args.log.now c.args.place.now.state due c.new-steps.result.items c.new-steps.ensures.items (λ a. clash (c.may_pass.ensures.1 a) c.if-not-may_pass.true)

pub returns : goal.returns
returns c = λ due.
    offers_pass c.args.log.now c.args.place.now.state due c.new-steps.result.items c.push.new.self.items c.new-steps.ensures.items c.in_ok-push.ensures.items
    (c.may_pass.ensures.0 c.if-not-may_pass.false)
