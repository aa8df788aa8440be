use Rattle.std.proofs.Common.{take}
use Rattle.std.specs.Prelude.{fold}
use Rattle.fabric_settle.specs.Doing.{Does}
use Rattle.fabric_settle.specs.Keeping.{IsLossless}
use Rattle.fabric_settle.specs.Reached.{Reached}
use Rattle.fabric_settle.specs.Rounds.{attempted}
use Rattle.fabric_settle.proofs.turns.try_each.Given as goal

abbrev pub invariant-loop-attempt : goal.invariant-loop-attempt
invariant-loop-attempt g l =
    let w = g.W.Witness in
    record {
      state : Does (w.saw l.line) l.fn.fabric (w.kept l.fn.witness) l.fn.moved (λ s. fold attempted s (take l.attempt-index l.attempts)) l.fabric (w.kept l.witness) l.moved;
      reached : Reached (w.saw l.line) (IsLossless w.may_lose) l.fn.fabric (w.kept l.fn.witness) l.fabric (w.kept l.witness);
    }
