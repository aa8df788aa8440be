use Rattle.draw_engine.proofs.Drawn.{well_drawn}
use Rattle.draw_engine.proofs.laws.pictures_are_well_formed.Goals as goal

pub returns : goal.returns
returns c = well_drawn c.pages_are_well_formed.ensures
