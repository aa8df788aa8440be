use Rattle.std.proofs.Common.{◌≡◌, take}
use Rattle.seq_memory.specs.History.{extent_of, contents}
use Rattle.flaw_places.proofs.replies.bytes_before.Given as goal

abbrev pub invariant-loop-p : goal.invariant-loop-p
invariant-loop-p g l =
    let x = g.C.AsClaim.claim l.claim in
    l.bytes.items ≡ contents (extent_of x.memory) (take l.p x.memory.entries)
