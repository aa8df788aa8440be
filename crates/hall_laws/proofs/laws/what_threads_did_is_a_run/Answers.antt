use Rattle.hall_laws.proofs.Truths.{run_of, all_ran}
use Rattle.hall_laws.proofs.laws.what_threads_did_is_a_run.Goals as goal

pub returns-clause-run : goal.returns-clause-run
returns-clause-run c = run_of

pub returns-clause-any : goal.returns-clause-any
returns-clause-any c = all_ran
