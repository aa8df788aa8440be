use Rattle.hall_events.proofs.Forwarding.{forward_owes, forward_refused, no_way}
use Rattle.hall_events.proofs.switching.forwarding.Goals as goal

pub returns-clause-owes : goal.returns-clause-owes
returns-clause-owes c = forward_owes c.forwarding_up.ensures.owes c.forwarding_out.ensures.owes

pub returns-clause-refused : goal.returns-clause-refused
returns-clause-refused c = forward_refused c.forwarding_up.ensures.kept c.forwarding_out.ensures.kept

pub returns-clause-no_way : goal.returns-clause-no_way
returns-clause-no_way c = no_way c.forwarding_up.ensures.no_way c.forwarding_out.ensures.no_way c.forwarding_out.ensures.no_lane

pub returns-clause-shown : goal.returns-clause-shown
returns-clause-shown c = c.forwarding_up.ensures.shown
