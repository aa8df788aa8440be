use Rattle.std.proofs.Common.{◌∙◌, sym, ap}
use Rattle.std.specs.Prelude.{Option, option_copied}
use Rattle.chart_levels.specs.declared.step_line.Step.{Step}
use Rattle.chart_levels.specs.Levels.{is_at}
use Rattle.chart_levels.proofs.Last.{last_is}
use Rattle.chart_levels.proofs.step_line.is_at.Goals as goal

pub returns-in-Some : goal.returns-in-Some
returns-in-Some c =
    c.is_same.ensures
    ∙ ap (λ (o : Option Step). is_at o c.args.value) (sym (ap option_copied c.in-Some.is) ∙ c.last.ensures.value ∙ sym (last_is c.args.steps.now))
