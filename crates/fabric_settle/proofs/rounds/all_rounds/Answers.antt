use Rattle.std.proofs.Common.{◌≡◌, ◌<◌, ◌-◌, ◌+◌, ℕ, refl, subst, arith}
use Rattle.fabric_settle.specs.Keeping.{IsLossless}
use Rattle.fabric_settle.proofs.RoundLemmas.{Leaves, all_left, one_less, stopped, none_left}
use Rattle.fabric_settle.proofs.ReachedLemmas.{still, then}
use Rattle.fabric_settle.proofs.rounds.all_rounds.Goals as goal

pub loop-count-init : goal.loop-count-init
loop-count-init g c =
    let w = g.W.Witness in
    let f = c.args.fabric.now in
    let k = w.kept c.args.witness.now in
    record {
      state = all_left (w.saw c.args.line) f k c.args.moved.now;
      reached = still (w.saw c.args.line) (IsLossless w.may_lose) f f k k refl refl;
    }

pub returns-in_err-round-clause-reached : goal.returns-in_err-round-clause-reached
returns-in_err-round-clause-reached g c = then c.loop-count.invariant.reached c.round.ensures.reached

pub returns-then-not-moved-clause-reached : goal.returns-then-not-moved-clause-reached
returns-then-not-moved-clause-reached g c = then c.loop-count.invariant.reached c.round.ensures.reached

pub returns-then-not-moved-clause-state : goal.returns-then-not-moved-clause-state
returns-then-not-moved-clause-state g c =
    let w = g.W.Witness in
    let left : 0 < 10000 - c.loop-count._count = omega arith in
    stopped (w.saw c.args.line) c.args.fabric.now c.loop-count.fabric c.round.new.fabric (w.kept c.args.witness.now) (w.kept c.loop-count.witness) (w.kept c.round.new.witness)
    c.args.moved.now c.loop-count.moved c.round.new.moved (10000 - c.loop-count._count) left c.if-not-moved.true c.loop-count.invariant.state c.in_ok-round.ensures.state

pub loop-count-preserved : goal.loop-count-preserved
loop-count-preserved g c =
    let w = g.W.Witness in
    let saw = w.saw c.args.line in
    let f = c.args.fabric.now in
    let k = w.kept c.args.witness.now in
    let here = c.loop-count in
    let new = c.round.new in
    let left : 0 < 10000 - here._count = omega arith in
    let fewer : 10000 - here._count - 1 ≡ 10000 - (here._count + 1) = omega arith in
    record {
      state = subst (λ (n : ℕ). Leaves saw f k c.args.moved.now n new.fabric (w.kept new.witness) new.moved) fewer
          (one_less saw f here.fabric new.fabric k (w.kept here.witness) (w.kept new.witness) c.args.moved.now here.moved new.moved (10000 - here._count) left c.if-not-moved.false
          here.invariant.state c.in_ok-round.ensures.state);
      reached = then here.invariant.reached c.round.ensures.reached;
    }

pub returns-clause-state : goal.returns-clause-state
returns-clause-state g c =
    let w = g.W.Witness in
    let none : 10000 - c.loop-count._count ≡ 0 = omega arith in
    none_left (w.saw c.args.line) c.args.fabric.now c.loop-count.fabric (w.kept c.args.witness.now) (w.kept c.loop-count.witness) c.args.moved.now c.loop-count.moved
    (10000 - c.loop-count._count) none c.loop-count.invariant.state
