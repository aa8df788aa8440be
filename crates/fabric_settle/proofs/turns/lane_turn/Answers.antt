use Rattle.std.proofs.lemmas.Result.{on_ok_weaker}
use Rattle.fabric_settle.proofs.RoundLemmas.{turn_done}
use Rattle.fabric_settle.proofs.turns.lane_turn.Goals as goal

pub returns-clause-state : goal.returns-clause-state
returns-clause-state g c =
    let w = g.W.Witness in
    on_ok_weaker c.try_each.result
    (λ d. turn_done (w.saw c.args.line) c.args.fabric.now c.try_each.new.fabric (w.kept c.args.witness.now) (w.kept c.try_each.new.witness) c.args.moved.now c.try_each.new.moved c.args.lane _
    c.lane_attempts.ensures d) c.try_each.ensures.state
