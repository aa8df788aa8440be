use Rattle.search_run.proofs.exploring.explore_watched.Goals as goal

pub returns-clause-right : goal.returns-clause-right
returns-clause-right g c = c.in_ok-outcome.ensures.right c.args.log.now c.in_ok-end.ensures.right
