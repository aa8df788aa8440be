use Rattle.std.proofs.Common.{length}
use Rattle.chart_page.proofs.legend.+put_signs.Given as goal

abbrev pub decreases-put_signs : goal.decreases-put_signs
decreases-put_signs l = length l.signs.now
