use Rattle.std.proofs.Common.{[], ◌∷◌}
use Rattle.std.specs.Prelude.{codes}
use Rattle.std.specs.Fmt.{decimal}
use Rattle.svg_text.specs.Xml.{attribute_text}
use Rattle.svg_text.proofs.Chains.{four}
use Rattle.svg_text.proofs.writing.put_view.Goals as goal

pub returns-clause-text : goal.returns-clause-text
unfolding attribute_text
returns-clause-text c =
    rw (c.push_str-2.ensures.bytes, c.put_next-3.ensures.text, c.put_next-2.ensures.text, c.put_next.ensures.text, c.put_decimal.ensures.text, c.push_str.ensures.bytes)
    (four c.args.piece.now.bytes (codes " viewBox=\"") (decimal 0) (32 ∷ decimal 0) (32 ∷ decimal c.args.width) (32 ∷ decimal c.args.height) (34 ∷ []))
