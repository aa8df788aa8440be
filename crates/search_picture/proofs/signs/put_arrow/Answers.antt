use Rattle.std.proofs.Common.{◌≡◌, ◌++◌, Bool, OnOk, subst, sym}
use Rattle.std.specs.Prelude.{codes}
use Rattle.svg_text.specs.Shapes.{shapes_text}
use Rattle.search_picture.specs.Picture.{arrow_sign, only_if}
use Rattle.search_picture.proofs.signs.put_arrow.Goals as goal

pub returns : goal.returns
returns c =
    subst (λ (b : Bool). OnOk c.put_arrow_sign.result (c.put_arrow_sign.new.out.items ≡ c.args.out.now.items ++ shapes_text (only_if b (arrow_sign c.args.left (codes "an arrow leads to what acts later")))))
    (sym c.if-not-marks.false) c.put_arrow_sign.ensures
