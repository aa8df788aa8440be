use Rattle.fabric_settle.specs.Doing.{Does}
use Rattle.fabric_settle.specs.Keeping.{IsLossless}
use Rattle.fabric_settle.specs.Reached.{Reached}
use Rattle.fabric_settle.specs.Rounds.{times}
use Rattle.fabric_settle.proofs.turns.all.Given as goal

abbrev pub invariant-loop-count : goal.invariant-loop-count
invariant-loop-count g l =
    let w = g.W.Witness in
    record {
      state : Does (w.saw l.line) l.fn.fabric (w.kept l.fn.witness) l.fn.moved (λ s. times l._count s l.event) l.fabric (w.kept l.witness) l.moved;
      reached : Reached (w.saw l.line) (IsLossless w.may_lose) l.fn.fabric (w.kept l.fn.witness) l.fabric (w.kept l.witness);
    }
