use Rattle.chart_engine.proofs.Charted.{well_charted}
use Rattle.chart_engine.proofs.laws.charts_are_well_formed.Goals as goal

pub returns : goal.returns
returns c = well_charted c.pages_are_well_formed.ensures
