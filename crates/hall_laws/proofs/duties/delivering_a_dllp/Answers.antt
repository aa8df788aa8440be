use Rattle.hall_laws.proofs.Answered.{event_shows}
use Rattle.hall_laws.proofs.Owing.{deliver_dllp_goes}
use Rattle.hall_laws.proofs.Refusing.{deliver_dllp_refused, back_has_nothing}
use Rattle.hall_laws.proofs.duties.delivering_a_dllp.Goals as goal

pub returns-clause-owes : goal.returns-clause-owes
returns-clause-owes c = deliver_dllp_goes

pub returns-clause-refused : goal.returns-clause-refused
returns-clause-refused c = deliver_dllp_refused

pub returns-clause-nothing : goal.returns-clause-nothing
returns-clause-nothing c = back_has_nothing

pub returns-clause-shown : goal.returns-clause-shown
returns-clause-shown c = event_shows
