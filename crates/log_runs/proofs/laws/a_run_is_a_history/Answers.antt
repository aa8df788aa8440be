use Rattle.log_runs.specs.Histories.{history_of, timed, with_replies}
use Rattle.log_runs.proofs.HistoryOf.{run_explains, run_clocked, run_alike}
use Rattle.log_runs.proofs.laws.a_run_is_a_history.Goals as goal

pub returns-clause-explains : goal.returns-clause-explains
returns-clause-explains c = λ t es formed all run. run_explains t es formed all run

pub returns-clause-clocked : goal.returns-clause-clocked
returns-clause-clocked c = λ t es formed all run. run_clocked t es formed all run

pub returns-clause-alike : goal.returns-clause-alike
returns-clause-alike c = λ t es formed all run. run_alike t es formed all run

pub returns-clause-explainable : goal.returns-clause-explainable
returns-clause-explainable c = λ t es formed all run.
    (timed run.steps (with_replies (history_of t.records run.steps) t), history_of t.records run.steps, run_alike t es formed all run, run_explains t es formed all run, run_clocked t es formed all run)
