use Rattle.std.proofs.Common.{◌∙◌}
use Rattle.std.proofs.lemmas.List.{get_or_default}
use Rattle.chart_levels.proofs.Steps.{step-next, step-past}
use Rattle.chart_levels.proofs.drawing.put_steps.Goals as goal

pub loop-place-preserved : goal.loop-place-preserved
loop-place-preserved c =
    step-next c.args.strip c.args.steps.now c.loop-place.place _ c.step_at.result c.loop-place.out.items c.put_step.new.out.items c.loop-place-test.true
    (get_or_default _ _ _ _ c.loop-place-test.true) c.step_at.ensures c.in_ok-put_step.ensures
    ∙ c.loop-place.invariant

pub returns : goal.returns
returns c = step-past c.args.strip c.args.steps.now c.loop-place.place c.loop-place.out.items c.loop-place-test.false ∙ c.loop-place.invariant
