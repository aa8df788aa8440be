use Rattle.std.proofs.Common.{◌≤◌}
use Rattle.search_run.specs.Watched.{Spends}
use Rattle.search_history.specs.Looks.{IsPartOf}
use Rattle.search_history.proofs.alone.each_of.Given as goal

abbrev pub invariant-loop-number : goal.invariant-loop-number
invariant-loop-number g l = (l.left ≤ l.fn.bounds.choices) × Spends g.W.Watch.sees (IsPartOf l.fn.task.whole.now) l.fn.bounds.choices l.left l.fn.watch l.watch
