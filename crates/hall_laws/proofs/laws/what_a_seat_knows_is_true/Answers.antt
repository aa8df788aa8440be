use Rattle.hall_laws.proofs.Truths.{is_true}
use Rattle.hall_laws.proofs.laws.what_a_seat_knows_is_true.Goals as goal

pub returns : goal.returns
returns c = is_true
