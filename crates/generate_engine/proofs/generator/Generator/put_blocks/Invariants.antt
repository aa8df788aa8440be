use Rattle.std.proofs.Common.{ℕ, List, ◌+◌, ◌*◌, ◌++◌}
use Rattle.std.specs.Io.KnownBytes.{Appends}
use Rattle.parameters.specs.declared.storm.Storm.{Storm}
use Rattle.generate_engine.specs.Script.{IsUnderWay}
use Rattle.generate_engine.proofs.generator.Generator.put_blocks.Given as goal

abbrev pub invariant-loop-block : goal.invariant-loop-block
invariant-loop-block g l = (text : List ℕ) × Appends (g.W.Write.contents l.fn.writer) (g.W.Write.contents l.writer) text
    × ((s : Storm) (n : ℕ) (written : List ℕ)
    → IsUnderWay s n (written ++ l.fn.self.pending.items) l.fn.self.fabric l.fn.self.chooser
    → IsUnderWay s (n + l._block * 256) ((written ++ text) ++ l.self.pending.items) l.self.fabric l.self.chooser)
