use Rattle.std.proofs.Common.{◌≡◌, take}
use Rattle.search_history.specs.Contradictions.{keeping_from}
use Rattle.search_history.proofs.thinning.keeping_records.Given as goal

abbrev pub invariant-loop-place : goal.invariant-loop-place
invariant-loop-place l =
    l.log ≡ record { base = l.fn.extent.base; size = l.fn.extent.size; block = l.fn.extent.block; records = keeping_from 0 l.kept (take l.place l.records) }
