use Rattle.std.proofs.Common.{◌≡◌, drop}
use Rattle.std.specs.Prelude.{◌||◌, is_some}
use Rattle.std.specs.List.{list_any}
use Rattle.search_picture.specs.Picture.{is_last, is_against, is_named, is_drawn}
use Rattle.search_picture.proofs.signs.marks_of.Given as goal

abbrev pub invariant-loop-request : goal.invariant-loop-request
invariant-loop-request l = record {
  last : (l.marks.last || list_any (λ r. is_last r.role) (drop l.request-index l.requests)) ≡ list_any (λ r. is_last r.role) l.requests;
  against : (l.marks.against || list_any (λ r. is_against r.role) (drop l.request-index l.requests)) ≡ list_any (λ r. is_against r.role) l.requests;
  named : (l.marks.named || list_any (λ r. is_named r.role) (drop l.request-index l.requests)) ≡ list_any (λ r. is_named r.role) l.requests;
  opens : (l.marks.opens || list_any (λ r. r.is_open) (drop l.request-index l.requests)) ≡ list_any (λ r. r.is_open) l.requests;
  places : (l.marks.places || list_any (λ r. is_some r.place) (drop l.request-index l.requests)) ≡ list_any (λ r. is_some r.place) l.requests;
  arrows : l.marks.arrows ≡ list_any (is_drawn l.requests) l.arrows;
}
