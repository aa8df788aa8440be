use Rattle.std.proofs.Common.{[], ◌∷◌}
use Rattle.std.specs.Prelude.{codes}
use Rattle.std.specs.Fmt.{decimal}
use Rattle.svg_text.specs.Xml.{attribute_text}
use Rattle.svg_text.proofs.Chains.{eight}
use Rattle.svg_text.proofs.writing.put_corners.Goals as goal

pub returns-clause-text : goal.returns-clause-text
unfolding attribute_text
returns-clause-text c =
    let b = c.args.block.now in
    rw (
      c.push_str-2.ensures.bytes,
      c.put_next-7.ensures.text,
      c.put_next-6.ensures.text,
      c.put_next-5.ensures.text,
      c.put_next-4.ensures.text,
      c.put_next-3.ensures.text,
      c.put_next-2.ensures.text,
      c.put_next.ensures.text,
      c.put_decimal.ensures.text,
      c.push_str.ensures.bytes,
    )
    (eight c.args.piece.now.bytes (codes " points=\"") (decimal b.right) (32 ∷ decimal b.top) (32 ∷ decimal b.left) (32 ∷ decimal b.top) (32 ∷ decimal b.left)
    (32 ∷ decimal b.bottom) (32 ∷ decimal b.right) (32 ∷ decimal b.bottom) (34 ∷ []))
