use Rattle.std.proofs.Common.{◌≡◌, ◌≤◌, false, refl, arith}
use Rattle.fabric_settle.specs.Keeping.{IsLossless}
use Rattle.fabric_settle.specs.Rounds.{goes}
use Rattle.fabric_settle.proofs.RoundLemmas.{none_yet, one_more, all_done}
use Rattle.fabric_settle.proofs.ReachedLemmas.{still, then}
use Rattle.fabric_settle.proofs.turns.all.Goals as goal

pub loop-count-init : goal.loop-count-init
loop-count-init g c =
    let w = g.W.Witness in
    let f = c.args.fabric.now in
    let k = w.kept c.args.witness.now in
    record {
      state = none_yet (w.saw c.args.line) f k c.args.moved.now c.args.event.now;
      reached = still (w.saw c.args.line) (IsLossless w.may_lose) f f k k refl refl;
    }

pub returns-in_err-once-clause-reached : goal.returns-in_err-once-clause-reached
returns-in_err-once-clause-reached g c = then c.loop-count.invariant.reached c.once.ensures.reached

pub returns-then-not-branch-clause-state : goal.returns-then-not-branch-clause-state
returns-then-not-branch-clause-state g c =
    let w = g.W.Witness in
    let stop : goes c.loop-count.fabric c.args.event.now ≡ false = cc (c.in_ok-once.ensures.went, c.if-not-branch.true) in
    let below : c.loop-count._count ≤ 18446744073709551615 = omega arith in
    all_done (w.saw c.args.line) c.args.fabric.now c.loop-count.fabric c.once.new.fabric (w.kept c.args.witness.now) (w.kept c.loop-count.witness) (w.kept c.once.new.witness)
    c.args.moved.now c.loop-count.moved c.once.new.moved c.args.event.now 18446744073709551615 c.loop-count._count below stop c.loop-count.invariant.state c.in_ok-once.ensures.state

pub returns-then-not-branch-clause-reached : goal.returns-then-not-branch-clause-reached
returns-then-not-branch-clause-reached g c = then c.loop-count.invariant.reached c.once.ensures.reached

pub loop-count-preserved : goal.loop-count-preserved
loop-count-preserved g c =
    let w = g.W.Witness in
    record {
      state = one_more (w.saw c.args.line) c.args.fabric.now c.loop-count.fabric c.once.new.fabric (w.kept c.args.witness.now) (w.kept c.loop-count.witness) (w.kept c.once.new.witness)
          c.args.moved.now c.loop-count.moved c.once.new.moved c.args.event.now c.loop-count._count c.loop-count.invariant.state c.in_ok-once.ensures.state;
      reached = then c.loop-count.invariant.reached c.once.ensures.reached;
    }
