use Rattle.svg_text.proofs.Escapes.{plain}
use Rattle.svg_text.proofs.laws.escaped_texts_are_plain.Goals as goal

pub returns : goal.returns
returns c = plain
