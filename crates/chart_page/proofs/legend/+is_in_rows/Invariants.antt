use Rattle.std.proofs.Common.{length}
use Rattle.chart_page.proofs.legend.+is_in_rows.Given as goal

abbrev pub decreases-is_in_rows : goal.decreases-is_in_rows
decreases-is_in_rows l = length l.rows.now
