-- Lists of events, one after the other.
use Rattle.std.proofs.Common.{◌≡◌, ◌∙◌, ◌++◌, List, [], ◌∷◌, refl, sym, ap, subst, Result, Ok, Err, OnOk, IfErr}
use Rattle.std.specs.Prelude.{fold}
use Rattle.std.proofs.lemmas.List.Sums.{fold-append}
use Rattle.fabric_steps.specs.Fabric.{Fabric}
use Rattle.fabric_steps.specs.Event.{Event, Seen}
use Rattle.fabric_steps.specs.declared.fault.Refusal.{Refusal}
use Rattle.fabric_steps.specs.declared.fault.Refusal.TheVariants as refusals
use Rattle.fabric_core.specs.Answers.{Happens}
use Rattle.fabric_settle.specs.Happenings.{Happening, happening, Leads, Answers}
use Rattle.fabric_settle.specs.Keeping.{Witnessed, IsLossless}
use Rattle.fabric_settle.specs.Reached.{Reached}

-- by no event
pub still : {K : Type 0} (saw : K → Happening → K) (l : Type 0) (f f' : Fabric) (k k' : K) → f' ≡ f → k' ≡ k → Reached saw l f k f' k'
still saw l f f' k k' e h = record { happened = []; led = e; now = λ lossless. h }

-- by one
pub by_one : {K : Type 0} (saw : K → Happening → K) (l : Type 0) (f f' : Fabric) (k k' : K) (e : Event) → Witnessed saw f k e f' k' → Reached saw l f k f' k'
by_one saw l f f' k k' e w = record { happened = happening f e w.what f' ∷ []; led = (refl, w.happens, refl); now = λ lossless. w.now }

-- by one of which the witness may lack what is to be kept
pub by_lost : {K : Type 0} (saw : K → Happening → K) (may_lose : Event → Type 0) (f f' : Fabric) (k k' : K) (e : Event) (what : Seen) → Happens f e what f' → may_lose e
    → Reached saw (IsLossless may_lose) f k f' k'
by_lost saw may_lose f f' k k' e what h lost = record { happened = happening f e what f' ∷ []; led = (refl, h, refl); now = λ lossless. absurd (lossless e lost) }

pub by_shown : {K T : Type 0} (saw : K → Happening → K) (may_lose : Event → Type 0) (f f' : Fabric) (k k0 k' : K) (e : Event) (what : Seen) (r : Result T Refusal)
    → Happens f e what f' → k0 ≡ k → OnOk r ((before : Fabric) → Answers before e what f' → k' ≡ saw k0 (happening before e what f'))
    → IfErr r (λ x. (x ≡ refusals.Memory) × may_lose e) → Reached saw (IsLossless may_lose) f k f' k'
by_shown {K = K} saw may_lose f f' k k0 k' e what (Ok x) h same ok cause =
    by_one saw (IsLossless may_lose) f f' k k' e (record { what = what; happens = h; now = ok f h.0 ∙ ap (λ (z : K). saw z (happening f e what f')) same })
by_shown saw may_lose f f' k k0 k' e what (Err x) h same ok cause = by_lost saw may_lose f f' k k' e what h cause.1

-- one list of events and then another
led_on : (By : Fabric → Event → Seen → Fabric → Type 0) (hs is : List Happening) (f g h : Fabric) → Leads By f hs g → Leads By g is h → Leads By f (hs ++ is) h
led_on By [] is f g h r s = subst (λ (x : Fabric). Leads By x is h) r s
led_on By (x ∷ hs) is f g h r s = (r.0, r.1, led_on By hs is x.after g h r.2 s)

pub then : {K : Type 0} {saw : K → Happening → K} {l : Type 0} {f g h : Fabric} {k x y : K} → Reached saw l f k g x → Reached saw l g x h y → Reached saw l f k h y
then {K = K} {saw = saw} {f = f} {g = g} {h = h} {k = k} r s = record {
  happened = r.happened ++ s.happened;
  led = led_on Happens r.happened s.happened f g h r.led s.led;
  now = λ lossless. s.now lossless ∙ ap (λ (z : K). fold saw z s.happened) (r.now lossless) ∙ sym (fold-append saw k r.happened s.happened);
}

-- the same fabric and the same that is kept
pub at_last : {K : Type 0} {saw : K → Happening → K} {l : Type 0} {f h h' : Fabric} {k y y' : K} → h' ≡ h → y' ≡ y → Reached saw l f k h y → Reached saw l f k h' y'
at_last {saw = saw} {l = l} {h = h} {h' = h'} {y = y} {y' = y'} eh ey r = then r (still saw l h h' y y' eh ey)
