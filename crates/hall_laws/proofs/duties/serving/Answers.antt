use Rattle.hall_laws.proofs.Answered.{event_shows}
use Rattle.hall_laws.proofs.Owing.{serve_goes}
use Rattle.hall_laws.proofs.Refusing.{serve_refused, in_has_nothing}
use Rattle.hall_laws.proofs.duties.serving.Goals as goal

pub returns-clause-owes : goal.returns-clause-owes
returns-clause-owes c = serve_goes

pub returns-clause-refused : goal.returns-clause-refused
returns-clause-refused c = serve_refused

pub returns-clause-nothing : goal.returns-clause-nothing
returns-clause-nothing c = in_has_nothing

pub returns-clause-shown : goal.returns-clause-shown
returns-clause-shown c = event_shows
