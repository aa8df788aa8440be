use Rattle.std.proofs.Common.{◌∙◌, inl, sym, subst, arith}
use Rattle.log_runs.specs.LogView.{LogView}
use Rattle.search_run.specs.Watched.{Spends}
use Rattle.search_history.specs.Looks.{IsPartOf}
use Rattle.search_history.proofs.Watching.{spends_then}
use Rattle.search_history.proofs.alone.each_part.Goals as goal

pub each_of-requires-clause-of : goal.each_of-requires-clause-of
each_of-requires-clause-of g c = inl (c.task-all.ensures.log ∙ sym c.task-all.ensures.whole)

pub returns-then-is_some-clause-saw : goal.returns-then-is_some-clause-saw
returns-then-is_some-clause-saw g c =
    let left = c.loop-group.left.choices in
    let rest = c.in_ok-found.found.left.choices in
    let more = subst (λ (l : LogView). Spends g.W.Watch.sees (IsPartOf l) left rest c.loop-group.watch c.each_within.new.watch) c.task-task.ensures.log c.in_ok-found.ensures.saw in
    spends_then g.W.Watch.sees (IsPartOf c.args.field.log.now) c.args.bounds.choices left rest _ _ _ c.loop-group.invariant.1 more

pub loop-group-preserved : goal.loop-group-preserved
loop-group-preserved g c =
    let left = c.loop-group.left.choices in
    let rest = c.in_ok-found.found.left.choices in
    let more = subst (λ (l : LogView). Spends g.W.Watch.sees (IsPartOf l) left rest c.loop-group.watch c.each_within.new.watch) c.task-task.ensures.log c.in_ok-found.ensures.saw in (
      omega (arith, c.in_ok-found.ensures.states, c.loop-group.invariant.0),
      spends_then g.W.Watch.sees (IsPartOf c.args.field.log.now) c.args.bounds.choices left rest _ _ _ c.loop-group.invariant.1 more,
    )
