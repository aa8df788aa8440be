use Rattle.std.proofs.Common.{◌≡◌, ◌∙◌, ◌++◌, Bool, false, cond, OnOk, [], subst, sym}
use Rattle.svg_text.specs.Shapes.{shapes_text}
use Rattle.search_picture.specs.Picture.{frame, is_same}
use Rattle.search_picture.proofs.axis.put_frame_behind.Goals as goal

pub returns : goal.returns
returns c =
    let known : is_same c.args.before c.args.requester ≡ false = sym c.is_same.ensures ∙ c.if-is_same.false in
    subst (λ (b : Bool). OnOk c.put_frame.result (c.put_frame.new.out.items ≡ c.args.out.now.items ++ shapes_text (cond b [] (frame c.args.width c.args.row c.args.requester))))
    (sym known) c.put_frame.ensures
