use Rattle.svg_text.proofs.ShapeLemmas.{read}
use Rattle.svg_text.proofs.laws.shapes_are_read_out.Goals as goal

pub returns : goal.returns
returns c = read
