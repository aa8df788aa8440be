use Rattle.svg_text.proofs.ShapeLemmas.{well_page}
use Rattle.svg_text.proofs.laws.pages_are_well_formed.Goals as goal

pub returns : goal.returns
returns c = well_page
