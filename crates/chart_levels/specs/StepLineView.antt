-- A level of a lane through the rows of a chart.
use Rattle.std.specs.Prelude.{ℕ, List}
use Rattle.fabric_steps.specs.declared.event.LaneName.{LaneName}
use Rattle.chart_levels.specs.declared.level.Level.{Level}
use Rattle.chart_levels.specs.declared.step_line.Step.{Step}

pub record StepLineView : Type 0 where
  pub lane : LaneName
  pub level : Level
  -- the greatest value so far, or 1 if that is greater
  pub greatest : ℕ
  -- the rows in which the value is another than in the row before
  pub steps : List Step
