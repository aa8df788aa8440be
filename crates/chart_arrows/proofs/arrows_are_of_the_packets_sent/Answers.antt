use Rattle.chart_arrows.proofs.arrows_are_of_the_packets_sent.Goals as goal

pub returns : goal.returns
returns c = λ config window lane tales left below faultless happened.
    c.arrows_begin_where_packets_were_sent.ensures window config.requesters lane tales below
    (c.packets_arrive_that_were_sent.ensures config window lane tales left below faultless happened)
