use Rattle.std.proofs.Common.{◌≡◌}
use Rattle.search_history.proofs.Runs.{IsTimed}
use Rattle.search_history.proofs.moments.set_moments.Given as goal

abbrev pub invariant-loop-at : goal.invariant-loop-at
invariant-loop-at l = (l.store.memory ≡ l.fn.store.memory) × IsTimed l.steps l.fn.store.records l.store.records l.event l.at
