use Rattle.search_choices.proofs.Covering.{clash, only_forced}
use Rattle.search_choices.proofs.offers.only_step.Goals as goal

pub returns : goal.returns
returns c =
    let log = c.args.log.now in
    let s = c.args.place.now.state in
    only_forced c.who_is_left_is_pending.ensures log c.args.place.now c.args.others.now.due c.in_ok-only.only
    (c.the_first_of_alike_requests_acts_first.ensures log s) (c.idle_requests_may_wait.ensures.alike log s) (λ t. c.idle_requests_may_wait.ensures.live log s t c.requires.more) c.in_ok-only.ensures c.requires.place
    (λ a. clash (c.may_pass.ensures.1 a) c.if-may_pass.false)
