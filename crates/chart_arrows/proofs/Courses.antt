-- The courses of a chart, one for each place.
use Rattle.std.proofs.Common.{◌≡◌, ◌∙◌, ◌≢◌, ℕ, List, refl, ap, Option, Some, None}
use Rattle.std.specs.Prelude.{slice_get}
use Rattle.fabric_steps.specs.declared.event.LaneName.{LaneName}
use Rattle.chart_links.specs.CourseView.{CourseView}
use Rattle.chart_links.specs.Lanes.{place_of, changed_found, changed}
use Rattle.chart_arrows.proofs.Parts.{get_set_other, get_set_same}

-- the course at a place becomes another
pub record Becomes (cs cs' : List CourseView) (p : ℕ) (g : CourseView → CourseView) : Type 0 where
  pub here : (c : CourseView) → slice_get cs p ≡ Some c → slice_get cs' p ≡ Some (g c)
  pub others : (k : ℕ) → p ≢ k → slice_get cs' k ≡ slice_get cs k

abbrev or_course : CourseView → Option CourseView → CourseView
or_course d (Some c) = c
or_course d None = d

changed_here : (g : CourseView → CourseView) (cs : List CourseView) (p : ℕ) (o : Option CourseView) (c : CourseView) → slice_get cs p ≡ o → o ≡ Some c
    → slice_get (changed_found g cs p o) p ≡ Some (g c)
changed_here g cs p None c is some = absurd cc
changed_here g cs p (Some x) c is some = get_set_same cs p x (g x) is ∙ ap (λ (y : CourseView). Some (g y)) (ap (or_course x) some)

changed_other : (g : CourseView → CourseView) (cs : List CourseView) (p k : ℕ) (o : Option CourseView) → p ≢ k → slice_get (changed_found g cs p o) k ≡ slice_get cs k
changed_other g cs p k None ne = refl
changed_other g cs p k (Some c) ne = get_set_other cs p k (g c) ne

pub becomes : (cs : List CourseView) (lane : LaneName) (g : CourseView → CourseView) → Becomes cs (changed g cs lane) (place_of lane) g
becomes cs lane g = record {
  here = λ c is. changed_here g cs (place_of lane) (slice_get cs (place_of lane)) c refl is;
  others = λ k ne. changed_other g cs (place_of lane) k (slice_get cs (place_of lane)) ne;
}

pub stays : (cs : List CourseView) (p : ℕ) → Becomes cs cs p (λ c. c)
stays cs p = record { here = λ c is. is; others = λ k ne. refl }
