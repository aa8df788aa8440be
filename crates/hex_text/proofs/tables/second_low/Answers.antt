use Rattle.hex_text.proofs.HexLemmas.{second_low-at}
use Rattle.hex_text.proofs.tables.second_low.Goals as goal

pub returns-clause-value : goal.returns-clause-value
returns-clause-value c = rw c.from.ensures (second_low-at c.args.digit c.ranges.digit.fits).0

pub returns-clause-range : goal.returns-clause-range
returns-clause-range c = rw c.from.ensures (second_low-at c.args.digit c.ranges.digit.fits).1
