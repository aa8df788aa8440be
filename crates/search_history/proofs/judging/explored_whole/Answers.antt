use Rattle.search_run.specs.Watched.{Is}
use Rattle.search_history.proofs.Watching.{saw_more}
use Rattle.search_history.proofs.judging.explored_whole.Goals as goal

pub returns-clause-saw : goal.returns-clause-saw
returns-clause-saw g c =
    saw_more g.W.Watch.sees (Is c.args.log.now) c.in_ok-first.first.states c.in_ok-found.found.states _ _ _ c.in_ok-first.ensures.saw c.in_ok-found.ensures.saw
