use Rattle.std.proofs.Common.{◌≡◌, ◌++◌, take}
use Rattle.log_runs.specs.Histories.{history_of}
use Rattle.trace_store.specs.Changes.{seen_by}
use Rattle.search_history.proofs.moments.act_all.Given as goal

abbrev pub invariant-loop-at : goal.invariant-loop-at
invariant-loop-at l =
    (seen_by l.store ≡ seen_by l.fn.store) × (l.store.memory.entries ≡ l.fn.store.memory.entries ++ history_of l.fn.store.records (take l.at l.steps))
