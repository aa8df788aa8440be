use Rattle.chart_links.proofs.Rows.{next, rows, head_next, head_rows}
use Rattle.chart_links.proofs.laws.events_get_the_next_row.Goals as goal

pub returns-clause-next : goal.returns-clause-next
returns-clause-next c = next

pub returns-clause-rows : goal.returns-clause-rows
returns-clause-rows c = rows

pub returns-clause-head_next : goal.returns-clause-head_next
returns-clause-head_next c = head_next

pub returns-clause-head_rows : goal.returns-clause-head_rows
returns-clause-head_rows c = head_rows
