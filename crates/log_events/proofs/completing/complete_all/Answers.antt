use Rattle.std.proofs.Common.{◌≡◌, ◌∙◌, get_or, length, arith}
use Rattle.std.proofs.lemmas.Result.{err_from_is_err_and}
use Rattle.log_runs.specs.declared.Step.TheVariants as steps
use Rattle.log_events.proofs.Filling.{filled_more, filled_end, filled_so_far, other_default}
use Rattle.log_events.proofs.completing.complete_all.Goals as goal

pub loop-at-preserved : goal.loop-at-preserved
loop-at-preserved c =
    let xs = c.args.steps.now in
    let i = c.loop-at.at in
    let s = get_or xs i steps.Pass in (
      c.step_on.ensures.memory ∙ c.loop-at.invariant.0,
      filled_more c.args.memory.now.extent c.args.memory.now.partners.now c.args.bytes.now c.loop-at.bytes c.step_on.new.bytes xs c.args.store.now.records c.loop-at.store.records c.step_on.new.store.records i s c.loop-at.invariant.1
          c.loop-at-test.true (other_default xs i steps.Pass s c.loop-at-test.true) c.in_ok-step_on.ensures.records c.in_ok-step_on.ensures.partners,
    )

pub returns-clause-ok : goal.returns-clause-ok
returns-clause-ok c =
    let xs = c.args.steps.now in
    let over : c.loop-at.at ≡ length xs = omega (arith, c.loop-at-test.false, c.loop-at.auto.at-end) in
    filled_end c.args.memory.now.extent c.args.memory.now.partners.now c.args.bytes.now c.loop-at.bytes xs c.args.store.now.records c.loop-at.store.records c.loop-at.at over c.loop-at.invariant.1

pub returns-in_err-step_on-clause-err : goal.returns-in_err-step_on-clause-err
returns-in_err-step_on-clause-err c =
    let p = err_from_is_err_and c.from_residual.result c.from_residual.ensures.1 in
    rw p.1 (
      c.loop-at.at,
      c.in_err-step_on.ensures.err
          ∙ filled_so_far c.args.memory.now.extent c.args.memory.now.partners.now c.args.bytes.now c.loop-at.bytes c.args.steps.now c.args.store.now.records c.loop-at.store.records c.loop-at.at c.loop-at.invariant.1,
    )
