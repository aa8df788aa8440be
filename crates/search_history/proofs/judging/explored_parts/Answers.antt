use Rattle.search_run.specs.Watched.{Is}
use Rattle.search_history.specs.Looks.{IsPartOf}
use Rattle.search_history.proofs.Watching.{itself, saw_more, saw_wider}
use Rattle.search_history.proofs.judging.explored_parts.Goals as goal

pub returns-clause-saw : goal.returns-clause-saw
returns-clause-saw g c =
    let log = c.args.log.now in
    saw_more g.W.Watch.sees (IsPartOf log) c.in_ok-parts.parts.states c.in_ok-found.found.states _ _ _ c.in_ok-parts.ensures.saw
    (saw_wider g.W.Watch.sees (Is log) (IsPartOf log) (itself log) c.in_ok-found.found.states _ _ c.in_ok-found.ensures.saw)
