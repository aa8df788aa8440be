use Rattle.std.proofs.Common.{◌≡◌, take, map}
use Rattle.trace_store.specs.Stored.{record_in}
use Rattle.trace_store.proofs.seen.owned_records.Given as goal

abbrev pub invariant-loop-stored : goal.invariant-loop-stored
invariant-loop-stored l = l.records.items ≡ map (record_in l.bytes) (take l.stored-index l.all)
