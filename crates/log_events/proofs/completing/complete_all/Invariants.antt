use Rattle.std.proofs.Common.{◌≡◌}
use Rattle.log_events.proofs.Filling.{Filled}
use Rattle.log_events.proofs.completing.complete_all.Given as goal

abbrev pub invariant-loop-at : goal.invariant-loop-at
invariant-loop-at l =
    (l.store.memory ≡ l.fn.store.memory) × Filled l.memory.extent l.memory.partners.now l.fn.bytes l.bytes l.steps l.fn.store.records l.store.records l.at
