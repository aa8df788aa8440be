use Rattle.search_history.proofs.Prefixing.{none_from_dead}
use Rattle.search_history.proofs.judging.judged_on.Goals as goal

pub returns : goal.returns
returns c = λ dead.
    none_from_dead c.args.records.seen.now c.args.records.count c.in_ok-log.log c.explainable_has_a_run.ensures c.in_ok-log.ensures.log.events c.in_ok-log.ensures.log.extent (c.in_ok-found.ensures dead)
