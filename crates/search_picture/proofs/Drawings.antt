-- Each request has its bar.
use Rattle.std.proofs.Common.{◌≡◌, ◌∙◌, ◌+◌, ◌∷◌, ◌++◌, List, ℕ, [], zero, suc, Some, ap, sym, refl, subst, append_assoc, arith}
use Rattle.std.specs.Prelude.{slice_get}
use Rattle.svg_text.specs.Shapes.{Shape}
use Rattle.search_picture.specs.declared.scene.PictureRequest.{PictureRequest}
use Rattle.search_picture.specs.Laws.{Has, EachRequestHasItsBar}
use Rattle.search_picture.specs.Picture.{arrows_of, bottom_of, columns_of, ground, lines_of, marks_of, request_shapes, requests_of, rows, signs, titles, told, whys}

at_first : (part rest : List Shape) → Has (part ++ rest) part
at_first part rest = record { before = []; after = rest; is = refl }

has_after : (xs all part : List Shape) → Has all part → Has (xs ++ all) part
has_after xs all part s = record {
  before = xs ++ s.before;
  after = s.after;
  is = ap (λ (l : List Shape). xs ++ l) s.is ∙ sym (append_assoc xs s.before (part ++ s.after));
}

has_before : (all rest part : List Shape) → Has all part → Has (all ++ rest) part
has_before all rest part s = record {
  before = s.before;
  after = s.after ++ rest;
  is = ap (λ (l : List Shape). l ++ rest) s.is ∙ append_assoc s.before (part ++ s.after) rest ∙ ap (λ (l : List Shape). s.before ++ l) (append_assoc part s.after rest);
}

of_some : {X : Type 0} (x y : X) → Some x ≡ Some y → x ≡ y
of_some x y e = cc

in_rows : (row : ℕ) (rs : List PictureRequest) (k : ℕ) (r : PictureRequest) → slice_get rs k ≡ Some r → Has (rows row rs) (request_shapes (row + k) r)
in_rows row [] k r e = absurd cc
in_rows row (x ∷ xs) zero r e =
    let here : row ≡ row + 0 = omega arith in
    subst (λ (y : PictureRequest). Has (rows row (x ∷ xs)) (request_shapes (row + 0) y)) (of_some x r e)
    (subst (λ (n : ℕ). Has (rows row (x ∷ xs)) (request_shapes n x)) here (at_first (request_shapes row x) (rows (row + 1) xs)))
in_rows row (x ∷ xs) (suc k) r e =
    let next : row + 1 + k ≡ row + suc k = omega arith in
    has_after (request_shapes row x) (rows (row + 1) xs) (request_shapes (row + suc k) r)
    (subst (λ (n : ℕ). Has (rows (row + 1) xs) (request_shapes n r)) next (in_rows (row + 1) xs k r e))

pub each : EachRequestHasItsBar
each s k r e =
    let rs = requests_of s in
    let part = request_shapes k r in
    let from_first : 0 + k ≡ k = omega arith in
    let found : Has (rows 0 rs) part = subst (λ (n : ℕ). Has (rows 0 rs) (request_shapes n r)) from_first (in_rows 0 rs k r e) in
    let rest = whys rs (arrows_of s) ++ told (bottom_of rs + 24) (lines_of s) in
    has_after (titles s.title.items s.note.items) _ part
    (has_after (signs (marks_of rs (arrows_of s)) s.places.items) _ part (has_after (ground (columns_of s) rs (arrows_of s)) _ part (has_before (rows 0 rs) rest part found)))
