use Rattle.std.proofs.Common.{◌≡◌, take, map}
use Rattle.trace_store.specs.Stored.{entry_in}
use Rattle.trace_store.proofs.store.owned_entries.Given as goal

abbrev pub invariant-loop-stored : goal.invariant-loop-stored
invariant-loop-stored l = l.entries.items ≡ map (entry_in l.bytes) (take l.stored-index l.all)
