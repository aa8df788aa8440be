use Rattle.chart_links.specs.ChartView.{new_chart}
use Rattle.chart_arrows.proofs.Flying.{never_more}
use Rattle.chart_arrows.proofs.packets_arrive_that_were_sent.Goals as goal

pub returns : goal.returns
returns c = λ config window lane tales left below faultless happened.
    never_more config (new_chart window config.requesters) lane tales left below faultless happened
