use Rattle.std.proofs.Common.{ℕ, ◌≡◌, ◌<◌, take, length}
use Rattle.std.specs.Prelude.{slice_get}
use Rattle.seq_memory.specs.History.{extent_of, contents}
use Rattle.history_words.specs.Lookup.{right_in}
use Rattle.history_check.proofs.comparing.right_replies.Given as goal

abbrev pub invariant-loop-p : goal.invariant-loop-p
invariant-loop-p g l =
    let x = g.C.AsClaim.claim l.claim in
    record {
      bytes : l.bytes.items ≡ contents (extent_of x.memory) (take l.p x.memory.entries);
      size : length l.bytes.items ≡ x.memory.size;
      len : length l.right.items ≡ l.p;
      right : (q : ℕ) → q < l.p → slice_get l.right.items q ≡ right_in l.index l.firsts x q;
    }
