use Rattle.chart_engine.proofs.Happening.{of_events}
use Rattle.chart_engine.proofs.laws.charts_show_what_happened.Goals as goal

pub returns : goal.returns
returns c =
    let rows = c.events_get_the_next_row.ensures in
    of_events (record { next = rows.next; rows = rows.rows; head_next = rows.head_next; head_rows = rows.head_rows }) c.a_settlement_is_of_answers.ensures
