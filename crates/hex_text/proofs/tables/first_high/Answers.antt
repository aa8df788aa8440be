use Rattle.hex_text.proofs.HexLemmas.{first_high-at}
use Rattle.hex_text.proofs.tables.first_high.Goals as goal

pub returns-clause-value : goal.returns-clause-value
returns-clause-value c = rw c.from.ensures (first_high-at c.args.digit c.ranges.digit.fits).0

pub returns-clause-range : goal.returns-clause-range
returns-clause-range c = rw c.from.ensures (first_high-at c.args.digit c.ranges.digit.fits).1
