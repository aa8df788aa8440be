use Rattle.history_bars.proofs.Overlaps.{apart}
use Rattle.history_bars.proofs.laws.bars_do_not_overlap.Goals as goal

pub returns : goal.returns
returns c = apart
