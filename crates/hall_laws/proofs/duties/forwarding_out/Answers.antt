use Rattle.hall_laws.proofs.Answered.{event_shows}
use Rattle.hall_laws.proofs.Owing.{out_goes}
use Rattle.hall_laws.proofs.Refusing.{out_no_way, out_no_lane, out_kept}
use Rattle.hall_laws.proofs.duties.forwarding_out.Goals as goal

pub returns-clause-owes : goal.returns-clause-owes
returns-clause-owes c = out_goes

pub returns-clause-no_way : goal.returns-clause-no_way
returns-clause-no_way c = out_no_way

pub returns-clause-no_lane : goal.returns-clause-no_lane
returns-clause-no_lane c = out_no_lane

pub returns-clause-kept : goal.returns-clause-kept
returns-clause-kept c = out_kept

pub returns-clause-shown : goal.returns-clause-shown
returns-clause-shown c = event_shows
