use Rattle.std.proofs.Common.{◌∙◌, ◌++◌, ap, List, ℕ, length, take}
use Rattle.svg_text.specs.Shapes.{shapes_text}
use Rattle.search_picture.specs.Picture.{last_signs, against_signs, named_signs, open_signs, places_signs, arrows_signs, sixth_of}
use Rattle.search_picture.proofs.Steps.{both}
use Rattle.search_picture.proofs.signs.put_signs.Goals as goal

pub returns : goal.returns
returns c =
    let m = c.args.marks.now in
    let words = take 80 c.args.words.now in
    let o = c.args.out.now.items in
    let p = c.put_last.new.out.items in
    let q = c.put_against.new.out.items in
    let n = c.put_named.new.out.items in
    let r = c.put_open.new.out.items in
    let s = c.put_places.new.out.items in
    let last = c.put_arrow.new.out.items in
    both o p last (last_signs m) _ c.in_ok-put_last.ensures
    (both p q last (against_signs m) _ c.in_ok-put_against.ensures
    (both q n last (named_signs m) _ c.in_ok-put_named.ensures
    (both n r last (open_signs m) _ c.in_ok-put_open.ensures
    (both r s last (places_signs m words) (arrows_signs m (sixth_of m (length words)))
    (c.in_ok-put_places.ensures ∙ ap (λ (w : List ℕ). r ++ shapes_text (places_signs m w)) c.shown-words.ensures.shown)
    (c.in_ok-put_arrow.ensures ∙ ap (λ (x : ℕ). s ++ shapes_text (arrows_signs m x)) (c.sixth.ensures.at ∙ ap (λ (w : List ℕ). sixth_of m (length w)) c.shown-words.ensures.shown))))))
