use Rattle.std.proofs.Common.{◌∙◌, ap}
use Rattle.std.specs.Prelude.{is_some}
use Rattle.search_picture.specs.declared.scene.PictureRequest.{PictureRequest}
use Rattle.search_picture.specs.declared.signs.Marks.{Marks}
use Rattle.search_picture.specs.Picture.{is_last, is_against, is_named}
use Rattle.search_picture.proofs.Steps.{any-next}
use Rattle.search_picture.proofs.signs.marks_of.Goals as goal

pub loop-request-preserved : goal.loop-request-preserved
loop-request-preserved c =
    let all = c.args.requests.now in
    let i = c.loop-request.request-index in
    let r = c.request-item.result in
    let m = c.loop-request.marks in
    let n = c.with_request-marks.result in
    let lt = c.loop-request-test.true in
    let at = c.request-item.is in
    let is = c.with_request-marks.ensures in
    record {
      last = any-next (λ (r : PictureRequest). is_last r.role) all i r m.last n.last lt at (ap (λ (x : Marks). x.last) is) ∙ c.loop-request.invariant.last;
      against = any-next (λ (r : PictureRequest). is_against r.role) all i r m.against n.against lt at (ap (λ (x : Marks). x.against) is) ∙ c.loop-request.invariant.against;
      named = any-next (λ (r : PictureRequest). is_named r.role) all i r m.named n.named lt at (ap (λ (x : Marks). x.named) is) ∙ c.loop-request.invariant.named;
      opens = any-next (λ (r : PictureRequest). r.is_open) all i r m.opens n.opens lt at (ap (λ (x : Marks). x.opens) is) ∙ c.loop-request.invariant.opens;
      places = any-next (λ (r : PictureRequest). is_some r.place) all i r m.places n.places lt at (ap (λ (x : Marks). x.places) is) ∙ c.loop-request.invariant.places;
      arrows = ap (λ (x : Marks). x.arrows) is ∙ c.loop-request.invariant.arrows;
    }
