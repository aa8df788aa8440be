use Rattle.std.proofs.Common.{◌≡◌, ◌++◌, Bool, false, ℕ, OnOk, subst, sym}
use Rattle.std.specs.Prelude.{codes}
use Rattle.svg_text.specs.Shapes.{shapes_text}
use Rattle.search_picture.specs.declared.scene.Role.TheVariants as roles
use Rattle.search_picture.specs.Picture.{only_if, sign, third_of}
use Rattle.search_picture.proofs.signs.put_named.Goals as goal

pub returns : goal.returns
returns c =
    subst (λ (b : Bool). OnOk c.put_sign.result (c.put_sign.new.out.items ≡ c.args.out.now.items ++ shapes_text (only_if b (sign (third_of c.args.marks.now) roles.Named false (codes "named below")))))
    (sym c.if-not-marks.false)
    (subst (λ (n : ℕ). OnOk c.put_sign.result (c.put_sign.new.out.items ≡ c.args.out.now.items ++ shapes_text (sign n roles.Named false (codes "named below")))) c.third.ensures.at c.put_sign.ensures)
