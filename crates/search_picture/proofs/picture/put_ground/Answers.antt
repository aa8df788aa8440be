use Rattle.std.proofs.Common.{◌∙◌, ◌++◌, ap, None, ℕ}
use Rattle.svg_text.specs.Shapes.{shapes_text}
use Rattle.search_picture.specs.Picture.{arrows, bottom_of, columns, frames, width_of}
use Rattle.search_picture.proofs.Steps.{both}
use Rattle.search_picture.proofs.picture.put_ground.Goals as goal

pub returns : goal.returns
returns c =
    let w = c.args.what.now in
    let o = c.args.out.now.items in
    let p = c.put_columns.new.out.items in
    let q = c.put_frames.new.out.items in
    let last = c.put_arrows.new.out.items in
    both o p last (columns (bottom_of w.requests.now) 0 w.columns.now) _
    (c.in_ok-put_columns.ensures ∙ ap (λ (b : ℕ). o ++ shapes_text (columns b 0 w.columns.now)) c.bottom_of.ensures.bottom)
    (both p q last (frames (width_of w.columns.now) None 0 w.requests.now) (arrows w.requests.now w.arrows.now)
    (c.in_ok-put_frames.ensures ∙ ap (λ (n : ℕ). p ++ shapes_text (frames n None 0 w.requests.now)) c.width_of.ensures)
    c.in_ok-put_arrows.ensures)
