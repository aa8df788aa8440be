use Rattle.std.proofs.Common.{◌∙◌, ◌+◌, ◌++◌, ap, ℕ}
use Rattle.svg_text.specs.Shapes.{shapes_text}
use Rattle.search_picture.specs.Picture.{bottom_of, rows, told, whys}
use Rattle.search_picture.proofs.Steps.{both}
use Rattle.search_picture.proofs.picture.put_bars.Goals as goal

pub returns : goal.returns
returns c =
    let w = c.args.what.now in
    let o = c.args.out.now.items in
    let p = c.put_requests.new.out.items in
    let q = c.put_whys.new.out.items in
    let last = c.put_told.new.out.items in
    both o p last (rows 0 w.requests.now) _ c.in_ok-put_requests.ensures
    (both p q last (whys w.requests.now w.arrows.now) (told (bottom_of w.requests.now + 24) w.lines.now) c.in_ok-put_whys.ensures
    (c.in_ok-put_told.ensures ∙ ap (λ (b : ℕ). q ++ shapes_text (told (b + 24) w.lines.now)) c.bottom_of.ensures.bottom))
