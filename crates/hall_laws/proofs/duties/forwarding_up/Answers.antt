use Rattle.hall_laws.proofs.Answered.{event_shows}
use Rattle.hall_laws.proofs.Owing.{up_goes}
use Rattle.hall_laws.proofs.Refusing.{up_no_way, up_kept}
use Rattle.hall_laws.proofs.duties.forwarding_up.Goals as goal

pub returns-clause-owes : goal.returns-clause-owes
returns-clause-owes c = up_goes

pub returns-clause-no_way : goal.returns-clause-no_way
returns-clause-no_way c = up_no_way

pub returns-clause-kept : goal.returns-clause-kept
returns-clause-kept c = up_kept

pub returns-clause-shown : goal.returns-clause-shown
returns-clause-shown c = event_shows
