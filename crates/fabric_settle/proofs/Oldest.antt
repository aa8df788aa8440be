-- What can go of the oldest packets is tried in each round.
use Rattle.std.proofs.Common.{◌≡◌, inl, inr, ℕ, zero, suc, ◌<◌, ◌≤◌, List, [], ◌∷◌, length, refl, sym, ap, subst, arith, Option, Some, None, IsOk}
use Rattle.std.specs.Prelude.{slice_get}
use Rattle.std.proofs.lemmas.Option.{slice_get_within}
use Rattle.lane_core.specs.Steps.{LaneEndsView}
use Rattle.requester_core.specs.RequesterView.{RequesterView}
use Rattle.fabric_steps.specs.Fabric.{Fabric}
use Rattle.fabric_steps.specs.Event.{Event}
use Rattle.fabric_steps.specs.declared.event.EventOf.TheVariants as events
use Rattle.fabric_steps.specs.declared.event.LaneName.{LaneName}
use Rattle.fabric_steps.specs.declared.event.LaneName.TheVariants as lanes
use Rattle.fabric_core.specs.Answers.{answer}
use Rattle.fabric_core.specs.Steps.{HasLanes}
use Rattle.fabric_settle.specs.Hops.{IsOldestHop}
use Rattle.fabric_settle.specs.declared.attempt.Attempt.{Attempt}
use Rattle.fabric_settle.specs.declared.attempt.Attempt.TheVariants as attempts
use Rattle.fabric_settle.specs.Rounds.{after_lanes}
use Rattle.fabric_settle.proofs.Trying.{AreHops, Has, event_of}

pub are_hops : AreHops after_lanes
are_hops = (tt, (tt, (tt, (tt, (tt, (tt, (tt, (tt, (tt, (tt, (tt, (tt, (tt, (tt, (tt, (tt, (tt, (tt, (tt, (tt, (tt, (tt, (tt, (tt, (tt, tt)))))))))))))))))))))))))

has_at : (xs : List Attempt) (n : ℕ) (a : Attempt) → slice_get xs n ≡ Some a → Has xs (event_of a)
has_at [] n a h = absurd cc
has_at (b ∷ xs) zero a h = let is : b ≡ a = cc in inl (ap event_of is)
has_at (b ∷ xs) (suc n) a h = inr (has_at xs n a h)

has_up : (i : ℕ) → i < 7 → Has after_lanes (events.Forward (lanes.Up (suc i)) 0)
has_up zero h = has_at after_lanes 0 (attempts.Once (events.Forward (lanes.Up 1) 0)) refl
has_up (suc zero) h = has_at after_lanes 2 (attempts.Once (events.Forward (lanes.Up 2) 0)) refl
has_up (suc (suc zero)) h = has_at after_lanes 4 (attempts.Once (events.Forward (lanes.Up 3) 0)) refl
has_up (suc (suc (suc zero))) h = has_at after_lanes 6 (attempts.Once (events.Forward (lanes.Up 4) 0)) refl
has_up (suc (suc (suc (suc zero)))) h = has_at after_lanes 8 (attempts.Once (events.Forward (lanes.Up 5) 0)) refl
has_up (suc (suc (suc (suc (suc zero))))) h = has_at after_lanes 10 (attempts.Once (events.Forward (lanes.Up 6) 0)) refl
has_up (suc (suc (suc (suc (suc (suc zero)))))) h = has_at after_lanes 12 (attempts.Once (events.Forward (lanes.Up 7) 0)) refl
has_up (suc (suc (suc (suc (suc (suc (suc i))))))) h = absurd (omega arith)

has_port : (i : ℕ) → i < 7 → Has after_lanes (events.Collect (suc i))
has_port zero h = has_at after_lanes 18 (attempts.All (events.Collect 1)) refl
has_port (suc zero) h = has_at after_lanes 19 (attempts.All (events.Collect 2)) refl
has_port (suc (suc zero)) h = has_at after_lanes 20 (attempts.All (events.Collect 3)) refl
has_port (suc (suc (suc zero))) h = has_at after_lanes 21 (attempts.All (events.Collect 4)) refl
has_port (suc (suc (suc (suc zero)))) h = has_at after_lanes 22 (attempts.All (events.Collect 5)) refl
has_port (suc (suc (suc (suc (suc zero))))) h = has_at after_lanes 23 (attempts.All (events.Collect 6)) refl
has_port (suc (suc (suc (suc (suc (suc zero)))))) h = has_at after_lanes 24 (attempts.All (events.Collect 7)) refl
has_port (suc (suc (suc (suc (suc (suc (suc i))))))) h = absurd (omega arith)

up_within : (f : Fabric) (i : ℕ) → IsOk (answer f (events.Forward (lanes.Up (suc i)) 0)) → i < length f.up
up_within f i ok = by_part (slice_get f.up i) refl
  where
    by_part : (o : Option LaneEndsView) → slice_get f.up i ≡ o → i < length f.up
    by_part (Some e) h = slice_get_within f.up i e h
    by_part None h = absurd (let no : IsOk (answer f (events.Forward (lanes.Up (suc i)) 0)) = ok in let bad = rw h at no in cc)

port_within : (f : Fabric) (i : ℕ) → IsOk (answer f (events.Collect (suc i))) → i < length f.requesters
port_within f i ok = by_part (slice_get f.requesters i) refl
  where
    by_part : (o : Option RequesterView) → slice_get f.requesters i ≡ o → i < length f.requesters
    by_part (Some q) h = slice_get_within f.requesters i q h
    by_part None h = absurd (let no : IsOk (answer f (events.Collect (suc i))) = ok in let bad = rw h at no in cc)

has_forward : (f : Fabric) → HasLanes f → (lane : LaneName) → IsOk (answer f (events.Forward lane 0)) → Has after_lanes (events.Forward lane 0)
has_forward f l (lanes.Up zero) ok = absurd cc
has_forward f l (lanes.Up (suc i)) ok =
    let inside : i < length f.up = up_within f i ok in
    let ups : length f.up ≡ length f.requesters = l.up in
    let few : length f.requesters ≤ 7 = l.few in
    has_up i (omega arith)
has_forward f l (lanes.Down port) ok = absurd cc
has_forward f l lanes.Inward ok = absurd cc
has_forward f l lanes.Outward ok = has_at after_lanes 14 (attempts.Once (events.Forward lanes.Outward 0)) refl

-- the oldest packets are tried
pub has_oldest : (f : Fabric) → HasLanes f → (event : Event) → IsOldestHop event → IsOk (answer f event) → Has after_lanes event
has_oldest f l (events.Forward lane place) is ok =
    subst (λ (n : ℕ). Has after_lanes (events.Forward lane n)) (sym is) (has_forward f l lane (subst (λ (n : ℕ). IsOk (answer f (events.Forward lane n))) is ok))
has_oldest f l (events.Serve place) is ok = subst (λ (n : ℕ). Has after_lanes (events.Serve n)) (sym is) (has_at after_lanes 16 (attempts.Once (events.Serve 0)) refl)
has_oldest f l (events.Collect zero) is ok = absurd cc
has_oldest f l (events.Collect (suc i)) is ok =
    let inside : i < length f.requesters = port_within f i ok in
    let few : length f.requesters ≤ 7 = l.few in
    has_port i (omega arith)
has_oldest f l (events.Submit port op) is ok = absurd is
has_oldest f l (events.Transmit lane) is ok = absurd is
has_oldest f l (events.Deliver lane fate) is ok = absurd is
has_oldest f l (events.SendDllp lane kind) is ok = absurd is
has_oldest f l (events.DeliverDllp lane fate) is ok = absurd is
has_oldest f l (events.Timer lane) is ok = absurd is
has_oldest f l (events.Retrained lane) is ok = absurd is
