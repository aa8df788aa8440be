use Rattle.std.proofs.Common.{◌≤◌}
use Rattle.search_run.specs.Watched.{Spends}
use Rattle.search_history.specs.Looks.{IsPartOf}
use Rattle.search_history.proofs.alone.each_part.Given as goal

abbrev pub invariant-loop-group : goal.invariant-loop-group
invariant-loop-group g l = (l.left.choices ≤ l.fn.bounds.choices) × Spends g.W.Watch.sees (IsPartOf l.fn.field.log.now) l.fn.bounds.choices l.left.choices l.fn.watch l.watch
