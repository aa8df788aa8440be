use Rattle.std.proofs.Common.{◌≡◌, take}
use Rattle.search_history.proofs.expecting.copies_of.Given as goal

abbrev pub invariant-loop-place : goal.invariant-loop-place
invariant-loop-place l =
    l.copies ≡ record { base = l.fn.extent.base; size = l.fn.extent.size; block = l.fn.extent.block; records = take l.place l.records }
