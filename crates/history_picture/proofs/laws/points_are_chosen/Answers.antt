use Rattle.history_picture.proofs.Drawings.{whole, few, flaws}
use Rattle.history_picture.proofs.laws.points_are_chosen.Goals as goal

pub returns : goal.returns
returns c = record { whole = whole; few = few; flaws = flaws }
