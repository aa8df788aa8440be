use Rattle.hall_laws.proofs.Answered.{event_shows}
use Rattle.hall_laws.proofs.Owing.{deliver_goes}
use Rattle.hall_laws.proofs.Refusing.{deliver_refused, wire_has_nothing}
use Rattle.hall_laws.proofs.duties.delivering.Goals as goal

pub returns-clause-owes : goal.returns-clause-owes
returns-clause-owes c = deliver_goes

pub returns-clause-refused : goal.returns-clause-refused
returns-clause-refused c = deliver_refused

pub returns-clause-nothing : goal.returns-clause-nothing
returns-clause-nothing c = wire_has_nothing

pub returns-clause-shown : goal.returns-clause-shown
returns-clause-shown c = event_shows
