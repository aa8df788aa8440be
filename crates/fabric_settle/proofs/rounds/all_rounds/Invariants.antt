use Rattle.std.proofs.Common.{◌-◌}
use Rattle.fabric_settle.specs.Keeping.{IsLossless}
use Rattle.fabric_settle.specs.Reached.{Reached}
use Rattle.fabric_settle.proofs.RoundLemmas.{Leaves}
use Rattle.fabric_settle.proofs.rounds.all_rounds.Given as goal

abbrev pub invariant-loop-count : goal.invariant-loop-count
invariant-loop-count g l =
    let w = g.W.Witness in
    record {
      state : Leaves (w.saw l.line) l.fn.fabric (w.kept l.fn.witness) l.fn.moved (10000 - l._count) l.fabric (w.kept l.witness) l.moved;
      reached : Reached (w.saw l.line) (IsLossless w.may_lose) l.fn.fabric (w.kept l.fn.witness) l.fabric (w.kept l.witness);
    }
