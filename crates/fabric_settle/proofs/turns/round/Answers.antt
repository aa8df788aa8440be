use Rattle.std.proofs.Common.{◌≡◌, ℕ, ◌<◌, false, length, take, refl, subst, arith}
use Rattle.std.specs.Prelude.{fold}
use Rattle.std.proofs.lemmas.Result.{on_ok_weaker}
use Rattle.fabric_steps.specs.declared.event.LaneName.TheVariants as lanes
use Rattle.fabric_settle.specs.Doing.{Does}
use Rattle.fabric_settle.specs.Rounds.{lane_turn, all_lanes}
use Rattle.fabric_settle.proofs.RoundLemmas.{next_item, round_done}
use Rattle.fabric_settle.proofs.ReachedLemmas.{then}
use Rattle.fabric_settle.proofs.turns.round.Goals as goal

pub returns-in_err-lane_turn-clause-reached : goal.returns-in_err-lane_turn-clause-reached
returns-in_err-lane_turn-clause-reached g c = then c.loop-lane.invariant.reached c.lane_turn.ensures.reached

pub loop-lane-preserved : goal.loop-lane-preserved
loop-lane-preserved g c =
    let w = g.W.Witness in
    let inside : c.loop-lane.lane-index < length all_lanes = omega arith in
    record {
      state = next_item (w.saw c.args.line) c.args.fabric.now c.loop-lane.fabric c.lane_turn.new.fabric (w.kept c.args.witness.now) (w.kept c.loop-lane.witness) (w.kept c.lane_turn.new.witness)
          false c.loop-lane.moved c.lane_turn.new.moved lane_turn all_lanes c.loop-lane.lane-index (lanes.Up 0) _ inside refl c.loop-lane.invariant.state c.in_ok-lane_turn.ensures.state;
      reached = then c.loop-lane.invariant.reached c.lane_turn.ensures.reached;
    }

pub returns-clause-state : goal.returns-clause-state
returns-clause-state g c =
    let w = g.W.Witness in
    let saw = w.saw c.args.line in
    let f = c.args.fabric.now in
    let k = w.kept c.args.witness.now in
    let here = c.loop-lane in
    let all_of : here.lane-index ≡ 16 = omega arith in
    let after : Does saw f k false (λ s. fold lane_turn s all_lanes) here.fabric (w.kept here.witness) here.moved =
    subst (λ (n : ℕ). Does saw f k false (λ s. fold lane_turn s (take n all_lanes)) here.fabric (w.kept here.witness) here.moved) all_of here.invariant.state in
    on_ok_weaker c.try_each.result
    (λ d. round_done saw f here.fabric c.try_each.new.fabric k (w.kept here.witness) (w.kept c.try_each.new.witness) c.args.moved.now here.moved c.try_each.new.moved after d) c.try_each.ensures.state

pub returns-clause-reached : goal.returns-clause-reached
returns-clause-reached g c = then c.loop-lane.invariant.reached c.try_each.ensures.reached
