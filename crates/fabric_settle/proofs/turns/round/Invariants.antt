use Rattle.std.proofs.Common.{false, take}
use Rattle.std.specs.Prelude.{fold}
use Rattle.fabric_settle.specs.Doing.{Does}
use Rattle.fabric_settle.specs.Keeping.{IsLossless}
use Rattle.fabric_settle.specs.Reached.{Reached}
use Rattle.fabric_settle.specs.Rounds.{lane_turn, all_lanes}
use Rattle.fabric_settle.proofs.turns.round.Given as goal

abbrev pub invariant-loop-lane : goal.invariant-loop-lane
invariant-loop-lane g l =
    let w = g.W.Witness in
    record {
      state : Does (w.saw l.line) l.fn.fabric (w.kept l.fn.witness) false (λ s. fold lane_turn s (take l.lane-index all_lanes)) l.fabric (w.kept l.witness) l.moved;
      reached : Reached (w.saw l.line) (IsLossless w.may_lose) l.fn.fabric (w.kept l.fn.witness) l.fabric (w.kept l.witness);
    }
