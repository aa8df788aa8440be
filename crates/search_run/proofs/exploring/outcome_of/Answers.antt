use Rattle.std.proofs.Common.{subst}
use Rattle.search_run.specs.Ends.{Ends}
use Rattle.search_run.proofs.FrameLemmas.{found, reached}
use Rattle.search_run.proofs.exploring.outcome_of.Goals as goal

pub returns-in_ok-steps-in-Run-clause-right : goal.returns-in_ok-steps-in-Run-clause-right
returns-in_ok-steps-in-Run-clause-right c = λ log ends.
    let walk = c.args.walk.now in
    let there = subst (Ends log walk) c.in-Run.is ends in
    found log walk.stack.frames walk.stack.done walk.here.state c.in_ok-steps-in-Run.steps.items there.0.path there.1 c.in_ok-steps-in-Run.ensures

pub returns-in-Limit-clause-right : goal.returns-in-Limit-clause-right
returns-in-Limit-clause-right c = λ log ends.
    let walk = c.args.walk.now in
    let there = subst (Ends log walk) c.in-Limit.is ends in
    (walk.here.state, reached log walk.stack.frames walk.stack.done walk.here.state there.0.path there.1)
