use Rattle.search_run.specs.Watched.{Is}
use Rattle.search_history.specs.Looks.{IsOn}
use Rattle.search_history.proofs.Watching.{only, saw_behind, saw_wider}
use Rattle.search_history.proofs.within.explore_within.Goals as goal

pub returns-clause-same : goal.returns-clause-same
returns-clause-same g c = (saw_behind g.W.Watch.sees (Is c.args.part.now) c.in_ok-found.found.states _ _ c.in_ok-found.ensures.saw).0

pub returns-clause-saw : goal.returns-clause-saw
returns-clause-saw g c =
    let part = c.args.part.now in
    let log = c.args.log.now in
    saw_wider g.W.Watch.sees (Is part) (IsOn log) (only log part c.requires) c.in_ok-found.found.states _ _
    (saw_behind g.W.Watch.sees (Is part) c.in_ok-found.found.states _ _ c.in_ok-found.ensures.saw).1
