use Rattle.std.proofs.Common.{◌≡◌, get_or}
use Rattle.fabric_settle.specs.declared.attempt.Attempt.TheVariants as attempts
use Rattle.fabric_settle.specs.Rounds.{attempted}
use Rattle.fabric_settle.proofs.RoundLemmas.{next_item, again}
use Rattle.fabric_settle.proofs.ReachedLemmas.{then, at_last}
use Rattle.std.specs.Prelude.{fold}
use Rattle.std.proofs.Common.{◌+◌, take}
use Rattle.fabric_settle.proofs.turns.try_each.Goals.{in-Once+in_ok-once-in-Once, in-All+in_ok-all-in-All}
use Rattle.fabric_settle.proofs.turns.try_each.Goals as goal

pub returns-in_err-once-in-Once-clause-reached : goal.returns-in_err-once-in-Once-clause-reached
returns-in_err-once-in-Once-clause-reached g c = then c.loop-attempt.invariant.reached c.once.ensures.reached

pub returns-in_err-all-in-All-clause-reached : goal.returns-in_err-all-in-All-clause-reached
returns-in_err-all-in-All-clause-reached g c = then c.loop-attempt.invariant.reached c.all.ensures.reached

pub loop-attempt-preserved : goal.loop-attempt-preserved
loop-attempt-preserved g c =
    let v = g.W.Witness in
    let saw = v.saw c.args.line in
    let f = c.args.fabric.now in
    let k = v.kept c.args.witness.now in
    let b = c.args.moved.now in
    let here = c.loop-attempt in
    let last = c.match-attempt in
    let xs = c.args.attempts.now in
    let i = c.loop-attempt.attempt-index in
    let item = c.attempt-item.result in
    elim c.match-attempt.branch [
      | in-Once+in_ok-once-in-Once w ↦
          let new = w.once.new in
          let is : get_or xs i item ≡ attempts.Once w.in-Once.event = cc (c.attempt-item.is, w.in-Once.is) in
          let fabric : last.fabric ≡ new.fabric = cc w.fabric-is in
          let kept : v.kept last.witness ≡ v.kept new.witness = cc w.witness-is in
          let moved : last.moved ≡ new.moved = cc w.moved-is in
          record {
            state = again saw f new.fabric last.fabric k (v.kept new.witness) (v.kept last.witness) b new.moved last.moved (λ s. fold attempted s (take (i + 1) xs)) fabric kept moved
                (next_item saw f here.fabric new.fabric k (v.kept here.witness) (v.kept new.witness) b here.moved new.moved attempted xs i item (attempts.Once w.in-Once.event)
                c.loop-attempt-test.true is here.invariant.state w.in_ok-once-in-Once.ensures.state);
            reached = at_last fabric kept (then here.invariant.reached w.once.ensures.reached);
          }
      | in-All+in_ok-all-in-All w ↦
          let new = w.all.new in
          let is : get_or xs i item ≡ attempts.All w.in-All.event = cc (c.attempt-item.is, w.in-All.is) in
          let fabric : last.fabric ≡ new.fabric = cc w.fabric-is in
          let kept : v.kept last.witness ≡ v.kept new.witness = cc w.witness-is in
          let moved : last.moved ≡ new.moved = cc w.moved-is in
          record {
            state = again saw f new.fabric last.fabric k (v.kept new.witness) (v.kept last.witness) b new.moved last.moved (λ s. fold attempted s (take (i + 1) xs)) fabric kept moved
                (next_item saw f here.fabric new.fabric k (v.kept here.witness) (v.kept new.witness) b here.moved new.moved attempted xs i item (attempts.All w.in-All.event)
                c.loop-attempt-test.true is here.invariant.state w.in_ok-all-in-All.ensures.state);
            reached = at_last fabric kept (then here.invariant.reached w.all.ensures.reached);
          }
    ]
