-- What is answered, happens: the packets that an event moves are spelled by their bytes.
use Rattle.std.proofs.Common.{ℕ, ◌≡◌, zero, suc, List, [], ◌∷◌, ◌++◌, subst, Some, Ok}
use Rattle.std.specs.Prelude.{slice_get}
use Rattle.tlp_core.specs.TlpView.{TlpView}
use Rattle.tlp_core.specs.Layout.{Spells, canonical}
use Rattle.seq_memory.specs.Limits.{IsBlock}
use Rattle.seq_memory.specs.History.{MemoryView}
use Rattle.completer_core.specs.Serving.{completion_to}
use Rattle.lane_core.specs.Steps.{LaneEndsView}
use Rattle.lane_core.specs.Calls.{content, on_the_way, IsRight}
use Rattle.fabric_steps.specs.Fabric.{Fabric}
use Rattle.fabric_steps.specs.Event.{Event, Seen}
use Rattle.fabric_steps.specs.declared.event.EventOf.TheVariants as events
use Rattle.fabric_steps.specs.declared.event.LaneName.{LaneName}
use Rattle.fabric_steps.specs.declared.event.LaneName.TheVariants as lanes
use Rattle.fabric_steps.specs.declared.fault.Refusal.TheVariants as refusals
use Rattle.fabric_core.specs.Answers.{part_at, lane_at, item_at, answer, Fits, Happens}
use Rattle.fabric_core.specs.Kept.{IsSoundFabric, IsNoSubmission, down_credits}
use Rattle.fabric_core.proofs.Views.{some_ok, at_place}
use Rattle.fabric_core.proofs.Lanes.{right}

-- the laws of the layers below
pub record AreSpelled : Type 0 where
  pub held : (e : LaneEndsView) (place mark : ℕ) (t : TlpView) → IsRight e → slice_get (content e) place ≡ Some (t, mark) → Spells (canonical t) t
  pub completed : (s : MemoryView) (t c : TlpView) → IsBlock s.block → Spells (canonical t) t → completion_to s t ≡ Some c → Spells (canonical c) c

before : {X : Type 0} (xs ys : List X) (i : ℕ) (x : X) → slice_get xs i ≡ Some x → slice_get (xs ++ ys) i ≡ Some x
before [] ys i x h = absurd cc
before (y ∷ xs) ys zero x h = h
before (y ∷ xs) ys (suc i) x h = before xs ys i x h

part_there : {X : Type 0} (parts : List X) (port : ℕ) (x : X) → part_at parts port ≡ Ok x → (place : ℕ) × (slice_get parts place ≡ Some x)
part_there parts zero x h = absurd cc
part_there parts (suc place) x h = (place, some_ok refusals.NoSuchPart (slice_get parts place) x h)

lane_right : (f : Fabric) (name : LaneName) (e : LaneEndsView) → IsSoundFabric f → lane_at f name ≡ Ok e → IsRight e
lane_right f (lanes.Up port) e s h = let p = part_there f.up port e h in right f.credits e (s.up p.0 e p.1)
lane_right f (lanes.Down port) e s h = let p = part_there f.down port e h in right (down_credits f.credits) e (s.down p.0 e p.1)
lane_right f lanes.Inward e s h = let is : f.inward ≡ e = cc in subst IsRight is (right f.credits f.inward s.inward)
lane_right f lanes.Outward e s h = let is : f.outward ≡ e = cc in subst IsRight is (right f.credits f.outward s.outward)

item_spelled : AreSpelled → (e : LaneEndsView) (place mark : ℕ) (t : TlpView) → IsRight e → item_at e.receiver place ≡ Ok (t, mark) → Spells (canonical t) t
item_spelled laws e place mark t r h =
    laws.held e place mark t r (before e.receiver.queue (on_the_way e) place (t, mark) (at_place e.receiver place (t, mark) h).item)

fits : AreSpelled → (f : Fabric) (event : Event) → IsSoundFabric f → IsNoSubmission event → Fits f event
fits laws f (events.Submit port op) s n = absurd n
fits laws f (events.Transmit lane) s n = tt
fits laws f (events.Deliver lane fate) s n = tt
fits laws f (events.SendDllp lane kind) s n = tt
fits laws f (events.DeliverDllp lane fate) s n = tt
fits laws f (events.Timer lane) s n = tt
fits laws f (events.Retrained lane) s n = tt
fits laws f (events.Forward name place) s n =
    λ e there. record { spelled = λ t mark h. item_spelled laws e place mark t (lane_right f name e s there) h }
fits laws f (events.Serve place) s n =
    record { spelled = λ t mark c h is. laws.completed f.memory t c s.config.block (item_spelled laws f.inward place mark t (right f.credits f.inward s.inward) h) is }
fits laws f (events.Collect port) s n = tt

pub happens : AreSpelled → (f f' : Fabric) (event : Event) (what : Seen) → IsSoundFabric f → IsNoSubmission event → answer f event ≡ Ok (what, f') → Happens f event what f'
happens laws f f' event what s n h = (h, fits laws f event s n)
