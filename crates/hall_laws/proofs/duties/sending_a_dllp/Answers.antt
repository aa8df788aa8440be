use Rattle.hall_laws.proofs.Answered.{event_shows}
use Rattle.hall_laws.proofs.Owing.{send_dllp_goes}
use Rattle.hall_laws.proofs.Refusing.{send_dllp_refused}
use Rattle.hall_laws.proofs.duties.sending_a_dllp.Goals as goal

pub returns-clause-owes : goal.returns-clause-owes
returns-clause-owes c = send_dllp_goes

pub returns-clause-refused : goal.returns-clause-refused
returns-clause-refused c = send_dllp_refused

pub returns-clause-shown : goal.returns-clause-shown
returns-clause-shown c = event_shows
