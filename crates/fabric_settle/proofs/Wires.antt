-- A hop leaves the wires.
use Rattle.std.proofs.Common.{◌≡◌, ℕ, zero, suc, List, [], ◌∷◌, refl, sym, subst, Some, Result, Ok, Err}
use Rattle.std.specs.Prelude.{slice_get, slice_set, fold, ◌-◌, ◌^◌}
use Rattle.lane_core.specs.Steps.{LaneEndsView, ReceiverEndView, SenderEndView, IsShort}
use Rattle.fabric_steps.specs.Fabric.{Fabric}
use Rattle.fabric_steps.specs.Event.{Event, Seen}
use Rattle.fabric_steps.specs.declared.event.EventOf.TheVariants as events
use Rattle.fabric_steps.specs.declared.event.LaneName.TheVariants as lanes
use Rattle.fabric_steps.specs.declared.fault.Refusal.{Refusal}
use Rattle.fabric_core.specs.Answers.{answer, Happens}
use Rattle.fabric_core.specs.ByParts.{HappensByParts}
use Rattle.fabric_core.specs.Kept.{IsSoundFabric}
use Rattle.fabric_core.specs.Quiet.{AreShort}
use Rattle.fabric_settle.specs.Hops.{IsHop}
use Rattle.fabric_settle.specs.declared.attempt.Attempt.{Attempt}
use Rattle.fabric_settle.specs.declared.attempt.Attempt.TheVariants as attempts
use Rattle.fabric_settle.specs.Rounds.{Settling, tried, times, attempted}
use Rattle.fabric_settle.proofs.Form.{fabric_after, refused_stays, times_none, times_next}
use Rattle.fabric_settle.proofs.Trying.{Laws, AreHops, event_of, keeps_tried, keeps_attempted, hop_submits_nothing}

abbrev pub ByParts : Type 0
ByParts = (f f' : Fabric) (event : Event) (what : Seen) → Happens f event what f' → HappensByParts f event what f'

-- ---- lanes

sender_short : (e : LaneEndsView) (s : SenderEndView) → IsShort e → IsShort (record e { sender = s })
sender_short e s h = record { packets = h.packets; dllps = h.dllps }

receiver_short : (e : LaneEndsView) (r : ReceiverEndView) → IsShort e → IsShort (record e { receiver = r })
receiver_short e r h = record { packets = h.packets; dllps = h.dllps }

abbrev Each : List LaneEndsView → Type 0
Each es = (i : ℕ) (e : LaneEndsView) → slice_get es i ≡ Some e → IsShort e

set_short : (es : List LaneEndsView) (k : ℕ) (y : LaneEndsView) → Each es → IsShort y → Each (slice_set es k y)
set_short [] k y h p i e there = h i e there
set_short (z ∷ es) zero y h p zero e there = let is : y ≡ e = cc in subst IsShort is p
set_short (z ∷ es) zero y h p (suc i) e there = h (suc i) e there
set_short (z ∷ es) (suc k) y h p zero e there = h zero e there
set_short (z ∷ es) (suc k) y h p (suc i) e there = set_short es k y (λ j x g. h (suc j) x g) p i e there

-- ---- hops

hop_short : (f f' : Fabric) (event : Event) (what : Seen) → IsHop event → AreShort f → HappensByParts f event what f' → AreShort f'
hop_short f f' (events.Submit port op) what is a h = absurd is
hop_short f f' (events.Transmit lane) what is a h = absurd is
hop_short f f' (events.Deliver lane fate) what is a h = absurd is
hop_short f f' (events.SendDllp lane kind) what is a h = absurd is
hop_short f f' (events.DeliverDllp lane fate) what is a h = absurd is
hop_short f f' (events.Timer lane) what is a h = absurd is
hop_short f f' (events.Retrained lane) what is a h = absurd is
hop_short f f' (events.Forward (lanes.Up port) place) what is a h =
    subst AreShort (sym h.2.now) (record {
      inward = sender_short f.inward h.2.sender_after a.inward;
      outward = a.outward;
      up = set_short f.up h.2.at_place (record h.2.lane { receiver = h.2.receiver_after }) a.up (receiver_short h.2.lane h.2.receiver_after (a.up h.2.at_place h.2.lane h.2.has_lane.there));
      down = a.down;
    })
hop_short f f' (events.Forward lanes.Outward place) what is a h =
    subst AreShort (sym h.2.now) (record {
      inward = a.inward;
      outward = receiver_short f.outward h.2.receiver_after a.outward;
      up = a.up;
      down = set_short f.down h.2.at_place (record h.2.lane { sender = h.2.sender_after }) a.down (sender_short h.2.lane h.2.sender_after (a.down h.2.at_place h.2.lane h.2.has_lane.there));
    })
hop_short f f' (events.Forward lanes.Inward place) what is a h = absurd h
hop_short f f' (events.Forward (lanes.Down port) place) what is a h = absurd h
hop_short f f' (events.Serve place) what is a h =
    subst AreShort (sym h.2.now) (record {
      inward = receiver_short f.inward h.2.receiver_after a.inward;
      outward = sender_short f.outward h.2.sender_after a.outward;
      up = a.up;
      down = a.down;
    })
hop_short f f' (events.Collect port) what is a h =
    subst AreShort (sym h.2.now) (record {
      inward = a.inward;
      outward = a.outward;
      up = a.up;
      down = set_short f.down h.2.place (record h.2.lane { receiver = h.2.receiver_after }) a.down (receiver_short h.2.lane h.2.receiver_after (a.down h.2.place h.2.lane h.2.has_lane.there));
    })

-- ---- attempts

tried_short : Laws → ByParts → (s : Settling) (e : Event) → IsHop e → IsSoundFabric s.fabric → AreShort s.fabric → AreShort (tried s e).fabric
tried_short l parts s e is sound a = by_answer (answer s.fabric e) refl
  where
    by_answer : (x : Result (Seen × Fabric) Refusal) → answer s.fabric e ≡ x → AreShort (tried s e).fabric
    by_answer (Ok p) h =
        subst AreShort (sym (fabric_after s e p h)) (hop_short s.fabric p.1 e p.0 is a (parts s.fabric p.1 e p.0 (l.happens s.fabric p.1 e p.0 sound (hop_submits_nothing e is) h)))
    by_answer (Err r) h = subst (λ (t : Settling). AreShort t.fabric) (sym (refused_stays s e r h)) a

times_short : Laws → ByParts → (n : ℕ) (s : Settling) (e : Event) → IsHop e → IsSoundFabric s.fabric → AreShort s.fabric → AreShort (times n s e).fabric
times_short l parts zero s e is sound a = subst (λ (t : Settling). AreShort t.fabric) (sym (times_none s e)) a
times_short l parts (suc n) s e is sound a =
    subst (λ (t : Settling). AreShort t.fabric) (sym (times_next n s e)) (times_short l parts n (tried s e) e is (keeps_tried l s e is sound).sound (tried_short l parts s e is sound a))

attempt_short : Laws → ByParts → (s : Settling) (x : Attempt) → IsHop (event_of x) → IsSoundFabric s.fabric → AreShort s.fabric → AreShort (attempted s x).fabric
attempt_short l parts s (attempts.Once e) is sound a = tried_short l parts s e is sound a
attempt_short l parts s (attempts.All e) is sound a = times_short l parts (2 ^ 64 - 1) s e is sound a

pub short_all : Laws → ByParts → (xs : List Attempt) (s : Settling) → AreHops xs → IsSoundFabric s.fabric → AreShort s.fabric → AreShort (fold attempted s xs).fabric
short_all l parts [] s are sound a = a
short_all l parts (x ∷ xs) s are sound a =
    short_all l parts xs (attempted s x) are.1 (keeps_attempted l s x are.0 sound).sound (attempt_short l parts s x are.0 sound a)
