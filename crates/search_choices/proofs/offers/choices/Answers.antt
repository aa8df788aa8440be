use Rattle.search_choices.specs.Offered.{Offers}
use Rattle.search_choices.proofs.Covering.{offers_permuted, offers_all}
use Rattle.search_choices.proofs.offers.choices.Goals as goal

pub returns-clause-allowed : goal.returns-clause-allowed
returns-clause-allowed c =
    let due = c.args.others.now.due in
    let tried : Offers c.args.log.now c.args.place.now.state due c.sort_by_cached_key.new.self.items c.args.place.now.pending = offers_permuted c.args.log.now c.args.place.now.state due c.in_ok-steps.steps.items c.sort_by_cached_key.new.self.items c.args.place.now.pending
    c.sort_by_cached_key.ensures.permutation c.in_ok-steps.ensures in
    tried.allowed

pub returns-clause-covers : goal.returns-clause-covers
returns-clause-covers c =
    let due = c.args.others.now.due in
    let tried : Offers c.args.log.now c.args.place.now.state due c.sort_by_cached_key.new.self.items c.args.place.now.pending = offers_permuted c.args.log.now c.args.place.now.state due c.in_ok-steps.steps.items c.sort_by_cached_key.new.self.items c.args.place.now.pending
    c.sort_by_cached_key.ensures.permutation c.in_ok-steps.ensures in
    let log = c.args.log.now in
    let s = c.args.place.now.state in
    offers_all c.who_is_left_is_pending.ensures log c.args.place.now due c.sort_by_cached_key.new.self.items
    (c.the_first_of_alike_requests_acts_first.ensures log s) (c.idle_requests_may_wait.ensures.alike log s) (c.idle_requests_may_wait.ensures.dead log s c.requires.more) tried c.requires.place
