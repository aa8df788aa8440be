use Rattle.std.proofs.Common.{List, subst, sym}
use Rattle.std.specs.List.{All}
use Rattle.log_runs.specs.Runs.{Allowed, AllDead, Dead}
use Rattle.log_runs.specs.declared.Step.{Step}
use Rattle.search_run.proofs.FrameLemmas.{more_here}
use Rattle.search_run.proofs.walk.try_here.Goals as goal

pub choices-requires-clause-more : goal.choices-requires-clause-more
choices-requires-clause-more c = more_here c.args.log.now c.args.walk.now c.requires.at

pub choices-requires-clause-place : goal.choices-requires-clause-place
choices-requires-clause-place c = c.requires.at.ready.place

pub try_each-requires-clause-allowed : goal.try_each-requires-clause-allowed
try_each-requires-clause-allowed c =
    subst (λ (xs : List Step). All (Allowed c.args.log.now c.args.walk.now.here.state) xs) (sym c.as_slice.ensures.value) c.in_ok-steps.ensures.allowed

pub returns-clause-spent : goal.returns-clause-spent
returns-clause-spent c = λ so.
    let log = c.args.log.now in
    let s = c.args.walk.now.here.state in
    let lost = c.in_ok-goes_on.ensures.lost so in
    let all : AllDead log s c.in_ok-steps.steps.items = subst (AllDead log s) c.as_slice.ensures.value lost.dead in
    record {
      at = lost.at;
      dead = subst (Dead log) (sym lost.state) (c.in_ok-steps.ensures.covers all);
      same = lost.same;
    }
