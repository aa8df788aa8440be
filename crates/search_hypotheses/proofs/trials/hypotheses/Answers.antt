use Rattle.std.proofs.Common.{subst, IfSome}
use Rattle.std.proofs.lemmas.List.Elements.{All-push}
use Rattle.search_hypotheses.specs.Hypotheses.{IsHypothesis}
use Rattle.search_hypotheses.proofs.trials.hypotheses.Goals as goal
use Rattle.search_hypotheses.proofs.trials.hypotheses.Goals.{in-Some+in_ok-push, in_default}

pub loop-at-preserved : goal.loop-at-preserved
loop-at-preserved c =
    let is = IsHypothesis c.args.prefix.seen.now c.args.prefix.count in
    elim c.match-branch-3.branch [
      | in-Some+in_ok-push w ↦
          rw w.found-is (rw w.in_ok-push.ensures.items (All-push is c.loop-at.found.items w.in-Some.told c.loop-at.invariant (subst (λ o. IfSome o is) w.in-Some.is c.in_ok-told.ensures)))
      | in_default w ↦ rw w.found-is c.loop-at.invariant
    ]
