-- A chart with the step lines beside its rows.
use Rattle.std.specs.Prelude.{List}
use Rattle.chart_links.specs.ChartView.{ChartView}
use Rattle.chart_levels.specs.StepLineView.{StepLineView}

pub record ChartWitnessView : Type 0 where
  pub chart : ChartView
  pub lines : List StepLineView
