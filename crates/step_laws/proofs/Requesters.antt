-- The requesters of a fabric are what calls make of new ones.
use Rattle.std.proofs.Common.{◌≡◌, ◌∙◌, ℕ, zero, suc, ◌≤◌, List, [], ◌∷◌, ◌++◌, length, refl, sym, ap, subst, arith}
use Rattle.std.specs.Prelude.{slice_set, slice_get, Some, Result, Ok}
use Rattle.std.proofs.lemmas.Option.{same_Some, slice_get_within}
use Rattle.tlp_core.specs.Ops.{Op}
use Rattle.tlp_core.specs.TlpView.{TlpView}
use Rattle.requester_core.specs.declared.fault.SubmitRefusal.{SubmitRefusal}
use Rattle.requester_core.specs.RequesterView.{RequesterView, IsSound, fresh, prepared, after_opened}
use Rattle.requester_core.specs.Runs.{Call, Submits, Arrives, submits, after_call, after_calls}
use Rattle.fabric_steps.specs.Fabric.{Fabric}
use Rattle.fabric_steps.specs.Event.{Event, Seen}
use Rattle.fabric_steps.specs.declared.event.EventOf.TheVariants as events
use Rattle.fabric_steps.specs.declared.event.LaneName.{LaneName}
use Rattle.fabric_steps.specs.declared.event.LaneName.TheVariants as lanes
use Rattle.fabric_steps.specs.declared.event.LinkEvent.{LinkEvent}
use Rattle.fabric_steps.specs.declared.event.LinkEvent.TheVariants as link
use Rattle.fabric_core.specs.declared.config.Config.{Config}
use Rattle.fabric_core.specs.Config.{IsNewWith}
use Rattle.fabric_core.specs.ByParts.{HappensByParts, LinksAt}

-- what calls make of the requester of a port
pub record IsCalled (port : ℕ) (q : RequesterView) : Type 0 where
  pub calls : List Call
  pub is : q ≡ after_calls (fresh port) calls

abbrev pub AreCalled : List RequesterView → Type 0
AreCalled qs = (i : ℕ) (q : RequesterView) → slice_get qs i ≡ Some q → IsCalled (suc i) q

-- ---- one call more

after-last : (q : RequesterView) (calls : List Call) (call : Call) → after_calls q (calls ++ call ∷ []) ≡ after_call (after_calls q calls) call
after-last q [] call = refl
after-last q (c ∷ calls) call = after-last (after_call q c) calls call

called-again : (port : ℕ) (q : RequesterView) (call : Call) → IsCalled port q → IsCalled port (after_call q call)
called-again port q call h = record {
  calls = h.calls ++ call ∷ [];
  is = ap (λ (q : RequesterView). after_call q call) h.is ∙ sym (after-last (fresh port) h.calls call);
}

submitted-call : (q : RequesterView) (op : Op) (n : ℕ) (t : TlpView) → prepared q op ≡ Ok (n, t) → after_call q (Submits op) ≡ after_opened q t
submitted-call q op n t e = ap (λ (r : Result (ℕ × TlpView) SubmitRefusal). submits r q) e

-- what holds of each element, and of the new one at its place, holds of each
kept-set : {X : Type 0} (P : ℕ → X → Type 0) (xs : List X) (k : ℕ) (y : X) → ((i : ℕ) (x : X) → slice_get xs i ≡ Some x → P i x) → P k y → (i : ℕ) (x : X) → slice_get (slice_set xs k y) i ≡ Some x → P i x
kept-set P [] k y all new i x at = absurd cc
kept-set P (z ∷ xs) zero y all new zero x at = subst (P zero) (same_Some y x at) new
kept-set P (z ∷ xs) zero y all new (suc i) x at = all (suc i) x at
kept-set P (z ∷ xs) (suc k) y all new zero x at = all zero x at
kept-set P (z ∷ xs) (suc k) y all new (suc i) x at = kept-set (λ i. P (suc i)) xs k y (λ i x at. all (suc i) x at) new i x at

set-called : (qs : List RequesterView) (place : ℕ) (y : RequesterView) → AreCalled qs → IsCalled (suc place) y → AreCalled (slice_set qs place y)
set-called qs place y all new = kept-set (λ i q. IsCalled (suc i) q) qs place y all new

-- ---- each event

links-keep : (f f' : Fabric) (lane : LaneName) (event : LinkEvent) (what : Seen) → LinksAt f lane event what f' → f'.requesters ≡ f.requesters
links-keep f f' (lanes.Up port) event what h = ap (λ (g : Fabric). g.requesters) h.now
links-keep f f' (lanes.Down port) event what h = ap (λ (g : Fabric). g.requesters) h.now
links-keep f f' lanes.Inward event what h = ap (λ (g : Fabric). g.requesters) h.now
links-keep f f' lanes.Outward event what h = ap (λ (g : Fabric). g.requesters) h.now

kept : (f f' : Fabric) → f'.requesters ≡ f.requesters → AreCalled f.requesters → AreCalled f'.requesters
kept f f' e h = subst AreCalled (sym e) h

pub called-after : (f f' : Fabric) (event : Event) (what : Seen) → HappensByParts f event what f' → AreCalled f.requesters → AreCalled f'.requesters
called-after f f' (events.Submit port op) what (number, told, s) h =
    let q = s.requester in
    let was = h s.place q s.has_requester.there in
    let now : IsCalled (suc s.place) s.requester_after =
    subst (IsCalled (suc s.place)) (submitted-call q op number s.submits.request s.submits.is_prepared ∙ sym s.submits.now) (called-again (suc s.place) q (Submits op) was) in
    subst (λ (g : Fabric). AreCalled g.requesters) (sym s.now) (set-called f.requesters s.place s.requester_after h now)
called-after f f' (events.Transmit lane) what p h = kept f f' (links-keep f f' lane link.Transmit what p) h
called-after f f' (events.Deliver lane fate) what p h = kept f f' (links-keep f f' lane (link.Deliver fate) what p) h
called-after f f' (events.SendDllp lane kind) what p h = kept f f' (links-keep f f' lane (link.SendDllp kind) what p) h
called-after f f' (events.DeliverDllp lane fate) what p h = kept f f' (links-keep f f' lane (link.DeliverDllp fate) what p) h
called-after f f' (events.Timer lane) what p h = kept f f' (links-keep f f' lane link.Timer what p) h
called-after f f' (events.Retrained lane) what p h = kept f f' (links-keep f f' lane link.Retrained what p) h
called-after f f' (events.Forward (lanes.Up port) place) what (to, told, p) h = kept f f' (ap (λ (g : Fabric). g.requesters) p.now) h
called-after f f' (events.Forward lanes.Outward place) what (to, told, p) h = kept f f' (ap (λ (g : Fabric). g.requesters) p.now) h
called-after f f' (events.Forward lanes.Inward place) what p h = absurd p
called-after f f' (events.Forward (lanes.Down port) place) what p h = absurd p
called-after f f' (events.Serve place) what (at, told, p) h = kept f f' (ap (λ (g : Fabric). g.requesters) p.now) h
called-after f f' (events.Collect port) what (a, told, s) h =
    let q = s.requester in
    let was = h s.place q s.has_requester.there in
    let now : IsCalled (suc s.place) s.requester_after =
    subst (IsCalled (suc s.place)) (sym s.collects.requester) (called-again (suc s.place) q (Arrives s.collects.packet) was) in
    subst (λ (g : Fabric). AreCalled g.requesters) (sym s.now) (set-called f.requesters s.place s.requester_after h now)

-- ---- new ones

pub called-new : (c : Config) (f : Fabric) → IsNewWith c f → AreCalled f.requesters
called-new c f n i q at = record { calls = []; is = n.requesters.each i q at }

-- ---- they are sound

abbrev pub AreSound : Type 0
AreSound = (port : ℕ) (calls : List Call) → 1 ≤ port → port ≤ 7 → IsSound (after_calls (fresh port) calls)

pub called-sound : AreSound → (qs : List RequesterView) → length qs ≤ 7 → AreCalled qs → (i : ℕ) (q : RequesterView) → slice_get qs i ≡ Some q → IsSound q
called-sound sound qs few h i q at =
    let called = h i q at in
    let within = slice_get_within qs i q at in
    subst IsSound (sym called.is) (sound (suc i) called.calls (omega arith) (omega (arith, within, few)))
