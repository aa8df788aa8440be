use Rattle.std.proofs.Common.{ℕ, List, ◌+◌, ◌++◌}
use Rattle.parameters.specs.declared.storm.Storm.{Storm}
use Rattle.generate_engine.specs.Script.{IsUnderWay}
use Rattle.generate_engine.proofs.generator.Generator.fill.Given as goal

abbrev pub invariant-loop-event : goal.invariant-loop-event
invariant-loop-event l = (s : Storm) (n : ℕ) (written : List ℕ)
    → IsUnderWay s n (written ++ l.fn.self.pending.items) l.fn.self.fabric l.fn.self.chooser
    → IsUnderWay s (n + l._event) (written ++ l.self.pending.items) l.self.fabric l.self.chooser
