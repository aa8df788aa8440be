use Rattle.std.proofs.Common.{◌≡◌, ◌∙◌, ◌+◌, ◌++◌, ◌∷◌, [], take, ap, sym, subst, add-one}
use Rattle.std.specs.Prelude.{get_or}
use Rattle.std.proofs.Math.Seq.{take-suc}
use Rattle.log_runs.specs.declared.Step.TheVariants.{Pass}
use Rattle.search_run.specs.Frames.{AreLost}
use Rattle.search_run.proofs.FrameLemmas.{lost_more}
use Rattle.search_run.proofs.walk.try_each.Goals as goal

pub loop-step-preserved : goal.loop-step-preserved
loop-step-preserved c =
    let log = c.args.log.now in
    let xs = c.args.steps.now in
    let i = c.loop-step.step-index in
    let grown : take (i + 1) xs ≡ take i xs ++ get_or xs i Pass ∷ [] = ap (λ k. take k xs) (add-one i) ∙ take-suc xs i Pass c.loop-step-test.true in (
      subst (AreLost log c.args.walk.now c.try_next.new.walk) (sym grown)
          (lost_more log c.args.walk.now c.loop-step.walk (take i xs) c.loop-step.invariant.0 c.try_next.new.walk (get_or xs i Pass ∷ []) (c.in_ok-try_next.ensures.lost c.if-branch.false)),
      c.in_ok-try_next.ensures.work ∙ c.loop-step.invariant.1,
    )
