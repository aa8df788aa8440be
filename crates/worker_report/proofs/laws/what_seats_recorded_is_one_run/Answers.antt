use Rattle.worker_report.proofs.Seats.{one_run}
use Rattle.worker_report.proofs.laws.what_seats_recorded_is_one_run.Goals as goal

pub returns : goal.returns
returns c = one_run
