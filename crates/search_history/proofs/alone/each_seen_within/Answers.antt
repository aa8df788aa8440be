use Rattle.search_history.specs.Looks.{IsPartOf}
use Rattle.search_history.proofs.Watching.{spends_behind}
use Rattle.search_history.proofs.alone.each_seen_within.Goals as goal

pub returns-clause-same : goal.returns-clause-same
returns-clause-same g c = (spends_behind g.W.Watch.sees (IsPartOf c.args.task.whole.now) c.args.bounds.choices c.in_ok-tried.tried.left.choices _ _ c.in_ok-tried.ensures.saw).0

pub returns-clause-saw : goal.returns-clause-saw
returns-clause-saw g c = (spends_behind g.W.Watch.sees (IsPartOf c.args.task.whole.now) c.args.bounds.choices c.in_ok-tried.tried.left.choices _ _ c.in_ok-tried.ensures.saw).1
