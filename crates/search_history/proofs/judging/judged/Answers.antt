use Rattle.search_history.proofs.Prefixing.{none_from_dead}
use Rattle.search_history.proofs.Runs.{dead_of, outcome_of}
use Rattle.search_history.proofs.judging.judged.Goals as goal

pub returns-clause-run : goal.returns-clause-run
returns-clause-run g c = λ all formed.
    outcome_of c.args.records.seen.now c.args.records.count c.args.log c.in_ok-found.found.outcome all c.requires.extent c.in_ok-found.ensures.right formed

pub returns-clause-none : goal.returns-clause-none
returns-clause-none g c = λ dead.
    none_from_dead c.args.records.seen.now c.args.records.count c.args.log c.explainable_has_a_run.ensures c.requires.events c.requires.extent
    (dead_of c.args.log c.in_ok-found.found.outcome c.in_ok-found.ensures.right dead)
