-- What is recorded, one record behind another; and what isn't of a TLP that isn't posted.
use Rattle.std.proofs.Common.{◌≡◌, ◌∙◌, ℕ, Bool, true, false, cond, List, IsErr, OnErr, Option, Some, None, option_map, Result, Ok, Err, is_err, OnOk, inl, inr, refl, ap, subst, sym}
use Rattle.std.specs.Prelude.{◌⊎◌}
use Rattle.tlp_core.specs.TlpView.{TlpView}
use Rattle.tlp_core.specs.Operation.{op_of}
use Rattle.endpoint_core.specs.Classes.{becomes}
use Rattle.endpoint_core.specs.declared.endpoint.Handled.TheVariants as handles
use Rattle.endpoint_core.specs.declared.received.Received.{Received}
use Rattle.endpoint_core.specs.declared.received.Received.TheVariants as received
use Rattle.endpoint_core.specs.EndpointView.{DeviceView, EndpointView}
use Rattle.endpoint_core.specs.Steps.{next_completion, handled, handled_as, is_claimed}
use Rattle.endpoint_log.specs.LogView.{LogView}
use Rattle.endpoint_log.specs.Steps.{answered_by, came, entered, number_entered, IsPosted}
use Rattle.endpoint_log.specs.declared.recording.Recording.{Recording}
use Rattle.endpoint_log.specs.declared.recording.Recording.TheVariants.{Off, On, Lost}
use Rattle.endpoint_log.specs.Recordings.{noted, acted, IsOrLost, IsEntered, log_of}

-- ---- a request that acts, in two steps

told_of : (new : Recording) (f : LogView → LogView) (mid r : Recording) → mid ≡ r → IsOrLost new (noted f mid) → IsOrLost new (noted f r)
told_of new f mid r is told = subst (λ (m : Recording). IsOrLost new (noted f m)) is told

entered_on : (e : EndpointView) (l : LogView) (mid new : Recording) (number : Option ℕ) → ((mid ≡ On (entered e l)) × (number ≡ number_entered e l)) ⊎ (mid ≡ Lost) → IsOrLost new (noted (λ k. answered_by k number (next_completion e)) mid) → IsOrLost new (acted e (On l))
entered_on e l mid new number (inl p) told =
    subst (λ (k : Option ℕ). IsOrLost new (On (answered_by (entered e l) k (next_completion e)))) p.1 (told_of new _ mid (On (entered e l)) p.0 told)
entered_on e l mid new number (inr p) told = inr (told_of new _ mid Lost p told)

entered_then : (e : EndpointView) (old mid new : Recording) (number : Option ℕ) → IsEntered e old mid number → IsOrLost new (noted (λ k. answered_by k number (next_completion e)) mid) → IsOrLost new (acted e old)
entered_then e (Off s) mid new number p told = told_of new _ mid (Off s) p told
entered_then e (On l) mid new number p told = entered_on e l mid new number p told
entered_then e Lost mid new number p told = told_of new _ mid Lost p told

pub acts_then : (e : EndpointView) (old mid new : Recording) (number : Option ℕ) (c : Option TlpView) → c ≡ next_completion e → IsEntered e old mid number → IsOrLost new (noted (λ k. answered_by k number c) mid) → IsOrLost new (acted e old)
acts_then e old mid new number c is p told =
    entered_then e old mid new number p (subst (λ (x : Option TlpView). IsOrLost new (noted (λ k. answered_by k number x) mid)) is told)

-- ---- what isn't posted is not recorded

unposted : (d : DeviceView) (r : Received) (l : LogView) → (IsPosted r → ⊥) → came d r l ≡ l
unposted d (received.Posted t) l n = absurd (n tt)
unposted d (received.NonPosted t) l n = refl
unposted d (received.Configuration r) l n = refl
unposted d (received.PoisonedPosted t) l n = refl
unposted d (received.PoisonedNonPosted t) l n = refl
unposted d (received.Refused c k) l n = refl
unposted d (received.Unsupported k) l n = refl
unposted d received.Ignored l n = refl
unposted d received.Unexpected l n = refl
unposted d (received.Malformed f) l n = refl

pub stays : {A B : Type 0} (d : DeviceView) (r : Received) (l new : LogView) (o : Result A B) → is_err o ≡ false → OnOk o (new ≡ came d r l) → (IsPosted r → ⊥) → On new ≡ On l
stays d r l new (Ok x) e said n = ap On (said ∙ unposted d r l n)
stays d r l new (Err x) e said n = absurd (cc e)

-- ---- a TLP for which there is no memory is not posted

not_claimed : (b : Bool) → cond b handles.Done handles.Unsupported ≡ handles.Waits → ⊥
not_claimed true e = absurd cc
not_claimed false e = absurd cc

waits_unposted : (d : DeviceView) (r : Received) → handled_as d r ≡ handles.Waits → IsPosted r → ⊥
waits_unposted d (received.Posted t) e p = not_claimed (is_claimed d (op_of t)) e
waits_unposted d (received.NonPosted t) e p = p
waits_unposted d (received.Configuration r) e p = p
waits_unposted d (received.PoisonedPosted t) e p = p
waits_unposted d (received.PoisonedNonPosted t) e p = p
waits_unposted d (received.Refused c n) e p = p
waits_unposted d (received.Unsupported n) e p = p
waits_unposted d received.Ignored e p = p
waits_unposted d received.Unexpected e p = p
waits_unposted d (received.Malformed f) e p = p

pub kept : {A B : Type 0} (o : Result A B) (e : EndpointView) (b : List ℕ) (r mid : Recording) → (IsErr o → handled e b ≡ handles.Waits) → ((IsPosted (becomes b) → ⊥) → mid ≡ r) → OnErr o (mid ≡ r)
kept (Ok x) e b r mid waits unrecorded = tt
kept (Err x) e b r mid waits unrecorded = unrecorded (waits_unposted e.device (becomes b) (waits refl))

-- ---- what isn't lost is recorded

pub whole_off : (s : _) (f : LogView → LogView) (old : Recording) → IsOrLost (Off s) (noted f old) → log_of (Off s) ≡ option_map f (log_of old)
whole_off s f (Off t) h = refl
whole_off s f (On l) (inl h) = absurd (cc h)
whole_off s f (On l) (inr h) = absurd (cc h)
whole_off s f Lost h = absurd (cc h)

pub whole_on : (k : LogView) (f : LogView → LogView) (old : Recording) → IsOrLost (On k) (noted f old) → log_of (On k) ≡ option_map f (log_of old)
whole_on k f (Off t) h = absurd (cc h)
whole_on k f (On l) (inl h) = cc h
whole_on k f (On l) (inr h) = absurd (cc h)
whole_on k f Lost h = absurd (cc h)
