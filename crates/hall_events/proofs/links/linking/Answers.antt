use Rattle.hall_events.proofs.Linking.{link_owes, link_refused, link_nothing, alone_owes, alone_refused}
use Rattle.hall_events.proofs.links.linking.Goals as goal

pub returns-clause-owes : goal.returns-clause-owes
returns-clause-owes c = link_owes c.transmitting.ensures.owes c.delivering.ensures.owes c.sending_a_dllp.ensures.owes c.delivering_a_dllp.ensures.owes

pub returns-clause-refused : goal.returns-clause-refused
returns-clause-refused c = link_refused c.transmitting.ensures.refused c.delivering.ensures.refused c.sending_a_dllp.ensures.refused c.delivering_a_dllp.ensures.refused

pub returns-clause-nothing : goal.returns-clause-nothing
returns-clause-nothing c = link_nothing c.transmitting.ensures.nothing c.delivering.ensures.nothing c.delivering_a_dllp.ensures.nothing

pub returns-clause-owes_alone : goal.returns-clause-owes_alone
returns-clause-owes_alone c = alone_owes c.expiring.ensures.owes c.retraining.ensures.owes

pub returns-clause-refused_alone : goal.returns-clause-refused_alone
returns-clause-refused_alone c = alone_refused c.expiring.ensures.refused c.retraining.ensures.refused

pub returns-clause-shown : goal.returns-clause-shown
returns-clause-shown c = c.transmitting.ensures.shown
