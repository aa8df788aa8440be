use Rattle.hall_laws.proofs.Answered.{event_shows}
use Rattle.hall_laws.proofs.Owing.{timer_goes}
use Rattle.hall_laws.proofs.Refusing.{timer_refused}
use Rattle.hall_laws.proofs.duties.expiring.Goals as goal

pub returns-clause-owes : goal.returns-clause-owes
returns-clause-owes c = timer_goes

pub returns-clause-refused : goal.returns-clause-refused
returns-clause-refused c = timer_refused

pub returns-clause-shown : goal.returns-clause-shown
returns-clause-shown c = event_shows
