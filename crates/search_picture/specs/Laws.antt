-- What a picture shows of each request.
use Rattle.std.specs.Prelude.{ℕ, ◌≡◌, ◌≤◌, ◌<◌, ◌++◌, List, length, slice_get, Some}
use Rattle.svg_text.specs.Shapes.{Shape}
use Rattle.search_picture.specs.declared.scene.PictureRequest.{PictureRequest}
use Rattle.search_picture.specs.declared.scene.Scene.{Scene}
use Rattle.search_picture.specs.Picture.{bar_block, drawn, request_shapes, requests_of, top_of}

-- these shapes are among all of them, one after the other
pub record Has (all part : List Shape) : Type 0 where
  pub before : List Shape
  pub after : List Shape
  pub is : all ≡ before ++ (part ++ after)

-- each of the requests that are shown has its bar, its texts and its place in the history, in a row of its own
abbrev pub EachRequestHasItsBar : Type 0
EachRequestHasItsBar = (s : Scene) (k : ℕ) (r : PictureRequest) → slice_get (requests_of s) k ≡ Some r → Has (drawn s) (request_shapes k r)

-- the bar of a row ends above those of all rows below it
abbrev pub RowsAreApart : Type 0
RowsAreApart = (i j : ℕ) (r q : PictureRequest) → i < j → (bar_block (top_of i) r).bottom < (bar_block (top_of j) q).top

-- no more than 20 are shown
abbrev pub FewAreShown : Type 0
FewAreShown = (s : Scene) → length (requests_of s) ≤ 20
