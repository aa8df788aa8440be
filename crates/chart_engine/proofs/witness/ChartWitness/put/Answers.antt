use Rattle.std.proofs.Common.{◌∙◌, ◌++◌, length, List, ap}
use Rattle.std.proofs.lemmas.Result.{on_ok_weaker}
use Rattle.chart_levels.specs.StepLineView.{StepLineView}
use Rattle.chart_links.specs.ChartView.{page_of, titled}
use Rattle.chart_links.specs.Levels.{levelled_text}
use Rattle.chart_engine.specs.ChartWitnessView.{ChartWitnessView}
use Rattle.chart_engine.specs.Chart.{witness_text}
use Rattle.chart_engine.proofs.witness.ChartWitness.put.Goals as goal

pub returns-clause-ok : goal.returns-clause-ok
returns-clause-ok c =
    let o = c.args.out.now.items in
    let chart = c.self.inside.chart in
    let title = c.args.title.now in
    on_ok_weaker c.put.result
    (λ e. e ∙ ap (λ (ls : List StepLineView). o ++ levelled_text (page_of chart (length ls)) ls c.args.is_red (titled chart title)) c.as_slice.ensures.value
    ∙ ap (λ (w : ChartWitnessView). o ++ witness_text w c.args.is_red title) c.self.view_is)
    c.put.ensures.ok
