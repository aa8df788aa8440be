use Rattle.std.proofs.Common.{◌≡◌, take}
use Rattle.search_hypotheses.proofs.trials.first_of.Given as goal

abbrev pub invariant-loop-place : goal.invariant-loop-place
invariant-loop-place l =
    l.copies ≡ record { base = l.prefix.seen.now.base; size = l.prefix.seen.now.size; block = l.prefix.seen.now.block; records = take l.place l.records }
