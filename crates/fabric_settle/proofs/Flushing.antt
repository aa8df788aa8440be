-- The turns of all lanes leave each lane flushed.
use Rattle.std.proofs.Common.{◌≡◌, ◌∙◌, inl, inr, ℕ, zero, suc, ◌+◌, ◌<◌, ◌≤◌, List, [], ◌∷◌, length, refl, sym, ap, subst, arith, Some, Result, Ok, Err}
use Rattle.std.specs.Prelude.{slice_get, ◌-◌, ◌^◌, fold}
use Rattle.std.proofs.lemmas.Option.{slice_get_within}
use Rattle.dllp_core.specs.declared.packet.Dllp.{Dllp}
use Rattle.flow_control.specs.declared.limits.LaneCredits.{LaneCredits}
use Rattle.lane_core.specs.declared.packet.WirePacket.{WirePacket}
use Rattle.lane_core.specs.Steps.{LaneEndsView, IsShort}
use Rattle.lane_core.specs.Calls.{IsRightWith}
use Rattle.lane_core.specs.Flushed.{IsFlushed, turned}
use Rattle.fabric_steps.specs.Fabric.{Fabric}
use Rattle.fabric_steps.specs.Lists.{Each}
use Rattle.fabric_steps.specs.ListFacts.{each_at}
use Rattle.fabric_steps.specs.declared.event.LaneName.{LaneName}
use Rattle.fabric_steps.specs.declared.event.LaneName.TheVariants as lanes
use Rattle.fabric_steps.specs.declared.fault.Refusal.{Refusal}
use Rattle.fabric_steps.specs.declared.fault.Refusal.TheVariants as refusals
use Rattle.fabric_core.specs.Answers.{some_or, part_at, lane_at}
use Rattle.fabric_core.specs.Steps.{HasLanes}
use Rattle.fabric_core.specs.Kept.{IsSoundFabric, down_credits}
use Rattle.fabric_core.specs.Quiet.{AreShort}
use Rattle.fabric_settle.specs.Hops.{AreFlushed}
use Rattle.fabric_settle.specs.Rounds.{Settling, lane_attempts, lane_turn, all_lanes}
use Rattle.fabric_settle.proofs.Form.{lane_turn_is}
use Rattle.fabric_settle.proofs.Trying.{Laws, Stays, same_stays, then_stays, stays_all}
use Rattle.fabric_settle.proofs.Lanes.{lane_there, lane_either, some_ok}
use Rattle.fabric_settle.proofs.Places.{nothing_sent}
use Rattle.fabric_settle.proofs.Turning.{LaneLaws, turn_is, turn_of_none, still_turn}

-- a turn flushes a lane
abbrev pub Flushes : Type 0
Flushes = (credits : LaneCredits) (e : LaneEndsView) → IsRightWith credits e → IsShort e → IsFlushed (turned (2 ^ 64 - 1) e)

-- ---- a property of the lane of each name

abbrev pub Holds : (LaneEndsView → Type 0) → Fabric → LaneName → Type 0
Holds P f name = (e : LaneEndsView) → lane_at f name ≡ Ok e → P e

abbrev pub AllHold : (LaneEndsView → Type 0) → Fabric → Type 0
AllHold P f = (name : LaneName) → Holds P f name

port_part : {X : Type 0} (P : X → Type 0) (parts : List X) → ((i : ℕ) (x : X) → slice_get parts i ≡ Some x → P x) → (port : ℕ) (x : X) → part_at parts port ≡ Ok x → P x
port_part P parts h zero x there = absurd cc
port_part P parts h (suc i) x there = h i x (some_ok refusals.NoSuchPart (slice_get parts i) x there)

pub all_short : (f : Fabric) → AreShort f → AllHold IsShort f
all_short f h (lanes.Up port) e there = port_part IsShort f.up h.up port e there
all_short f h (lanes.Down port) e there = port_part IsShort f.down h.down port e there
all_short f h lanes.Inward e there = let is : f.inward ≡ e = cc in subst IsShort is h.inward
all_short f h lanes.Outward e there = let is : f.outward ≡ e = cc in subst IsShort is h.outward

pub are_short : (f : Fabric) → AllHold IsShort f → AreShort f
are_short f h = record {
  inward = h lanes.Inward f.inward refl;
  outward = h lanes.Outward f.outward refl;
  up = λ i e there. h (lanes.Up (suc i)) e (ap (some_or refusals.NoSuchPart) there);
  down = λ i e there. h (lanes.Down (suc i)) e (ap (some_or refusals.NoSuchPart) there);
}

pub all_flushed : (f : Fabric) → AreFlushed f → AllHold IsFlushed f
all_flushed f h (lanes.Up port) e there = port_part IsFlushed f.up h.up port e there
all_flushed f h (lanes.Down port) e there = port_part IsFlushed f.down h.down port e there
all_flushed f h lanes.Inward e there = let is : f.inward ≡ e = cc in subst IsFlushed is h.inward
all_flushed f h lanes.Outward e there = let is : f.outward ≡ e = cc in subst IsFlushed is h.outward

pub short_of : (e : LaneEndsView) → IsFlushed e → IsShort e
short_of e h = record {
  packets = subst (λ (w : List WirePacket). length w < 2 ^ 63) (sym h.forward) (omega arith);
  dllps = subst (λ (w : List Dllp). length w < 2 ^ 63) (sym h.back) (omega arith);
}

record Right (e : LaneEndsView) : Type 0 where
  credits : LaneCredits
  right : IsRightWith credits e

right_of : (f : Fabric) → IsSoundFabric f → AllHold Right f
right_of f s (lanes.Up port) e there = port_part Right f.up (λ i x h. record { credits = f.credits; right = s.up i x h }) port e there
right_of f s (lanes.Down port) e there = port_part Right f.down (λ i x h. record { credits = down_credits f.credits; right = s.down i x h }) port e there
right_of f s lanes.Inward e there = let is : f.inward ≡ e = cc in subst Right is (record { credits = f.credits; right = s.inward })
right_of f s lanes.Outward e there = let is : f.outward ≡ e = cc in subst Right is (record { credits = f.credits; right = s.outward })

-- ---- one turn

pub turn_stays : Laws → (s : Settling) (lane : LaneName) → IsSoundFabric s.fabric → Stays s (lane_turn s lane)
turn_stays l s lane sound = subst (Stays s) (sym (lane_turn_is s lane)) (stays_all l (lane_attempts lane) s (tt, (tt, (tt, (tt, (tt, (tt, (tt, (tt, (tt, tt))))))))) sound)

-- what a turn leaves of the lane of each name: that of the turn's name is flushed, and each other is as it was
turn_each : LaneLaws → Flushes → (P : LaneEndsView → Type 0) → ((e : LaneEndsView) → IsFlushed e → P e) → (s : Settling) (lane : LaneName) → IsSoundFabric s.fabric → Holds IsShort s.fabric lane
    → (other : LaneName) → Holds P s.fabric other → Holds P (lane_turn s lane).fabric other
turn_each l flushes P p s lane sound short other h d there = by_lane (lane_at s.fabric lane) refl
  where
    by_lane : (a : Result LaneEndsView Refusal) → lane_at s.fabric lane ≡ a → P d
    by_lane (Ok e) k =
        let r = right_of s.fabric sound lane e k in
        let now = turn_is l r.credits s lane e r.right k in
        elim (lane_either s.fabric lane (turned (2 ^ 64 - 1) e) other d (sym (ap (λ (g : Fabric). lane_at g other) now) ∙ there)) [
          | inl is ↦ subst P (sym is) (p (turned (2 ^ 64 - 1) e) (flushes r.credits e r.right (short e k)))
          | inr was ↦ h d was
        ]
    by_lane (Err r) k = h d (sym (ap (λ (t : Settling). lane_at t.fabric other) (turn_of_none s lane r k)) ∙ there)

ok_same : (x y : LaneEndsView) → ◌≡◌ {A = Result LaneEndsView Refusal} (Ok x) (Ok y) → x ≡ y
ok_same x y q = cc

ok_no_err : (x : LaneEndsView) (r : Refusal) → ◌≡◌ {A = Result LaneEndsView Refusal} (Ok x) (Err r) → ⊥
ok_no_err x r e = cc

turn_flushes : LaneLaws → Flushes → (s : Settling) (lane : LaneName) → IsSoundFabric s.fabric → Holds IsShort s.fabric lane → Holds IsFlushed (lane_turn s lane).fabric lane
turn_flushes l flushes s lane sound short d there = by_lane (lane_at s.fabric lane) refl
  where
    by_lane : (a : Result LaneEndsView Refusal) → lane_at s.fabric lane ≡ a → IsFlushed d
    by_lane (Ok e) k =
        let r = right_of s.fabric sound lane e k in
        let now = turn_is l r.credits s lane e r.right k in
        let new : lane_at (lane_turn s lane).fabric lane ≡ Ok (turned (2 ^ 64 - 1) e) = ap (λ (g : Fabric). lane_at g lane) now ∙ lane_there s.fabric lane e (turned (2 ^ 64 - 1) e) k in
        subst IsFlushed (ok_same (turned (2 ^ 64 - 1) e) d (sym new ∙ there)) (flushes r.credits e r.right (short e k))
    by_lane (Err r) k = absurd (let no : lane_at (lane_turn s lane).fabric lane ≡ Err r = ap (λ (t : Settling). lane_at t.fabric lane) (turn_of_none s lane r k) ∙ k in ok_no_err d r (sym there ∙ no))

-- ---- the turns of several lanes

pub turns_stay : Laws → (names : List LaneName) (s : Settling) → IsSoundFabric s.fabric → Stays s (fold lane_turn s names)
turns_stay l [] s sound = same_stays s sound
turns_stay l (lane ∷ names) s sound =
    let k = turn_stays l s lane sound in
    then_stays s (lane_turn s lane) (fold lane_turn (lane_turn s lane) names) k (turns_stay l names (lane_turn s lane) k.sound)

turns_each : Laws → LaneLaws → Flushes → (P : LaneEndsView → Type 0) → ((e : LaneEndsView) → IsFlushed e → P e) → (names : List LaneName) (s : Settling) → IsSoundFabric s.fabric → AllHold IsShort s.fabric
    → (other : LaneName) → Holds P s.fabric other → Holds P (fold lane_turn s names).fabric other
turns_each l ll flushes P p [] s sound short other h = h
turns_each l ll flushes P p (lane ∷ names) s sound short other h =
    turns_each l ll flushes P p names (lane_turn s lane) (turn_stays l s lane sound).sound
    (λ name. turn_each ll flushes IsShort short_of s lane sound (short lane) name (short name)) other (turn_each ll flushes P p s lane sound (short lane) other h)

pub turns_short : Laws → LaneLaws → Flushes → (names : List LaneName) (s : Settling) → IsSoundFabric s.fabric → AllHold IsShort s.fabric → AllHold IsShort (fold lane_turn s names).fabric
turns_short l ll flushes names s sound short name = turns_each l ll flushes IsShort short_of names s sound short name (short name)

turns_flush : Laws → LaneLaws → Flushes → (names : List LaneName) (s : Settling) → IsSoundFabric s.fabric → AllHold IsShort s.fabric → Each (Holds IsFlushed (fold lane_turn s names).fabric) names
turns_flush l ll flushes [] s sound short = tt
turns_flush l ll flushes (lane ∷ names) s sound short =
    let t = lane_turn s lane in
    let kept : IsSoundFabric t.fabric = (turn_stays l s lane sound).sound in
    let still : AllHold IsShort t.fabric = λ name. turn_each ll flushes IsShort short_of s lane sound (short lane) name (short name) in (
      turns_each l ll flushes IsFlushed (λ e h. h) names t kept still lane (turn_flushes ll flushes s lane sound (short lane)),
      turns_flush l ll flushes names t kept still,
    )

up_place : (i : ℕ) → i < 7 → slice_get all_lanes i ≡ Some (lanes.Up (suc i))
up_place zero h = refl
up_place (suc zero) h = refl
up_place (suc (suc zero)) h = refl
up_place (suc (suc (suc zero))) h = refl
up_place (suc (suc (suc (suc zero)))) h = refl
up_place (suc (suc (suc (suc (suc zero))))) h = refl
up_place (suc (suc (suc (suc (suc (suc zero)))))) h = refl
up_place (suc (suc (suc (suc (suc (suc (suc i))))))) h = absurd (omega arith)

down_place : (i : ℕ) → i < 7 → slice_get all_lanes (9 + i) ≡ Some (lanes.Down (suc i))
down_place zero h = refl
down_place (suc zero) h = refl
down_place (suc (suc zero)) h = refl
down_place (suc (suc (suc zero))) h = refl
down_place (suc (suc (suc (suc zero)))) h = refl
down_place (suc (suc (suc (suc (suc zero))))) h = refl
down_place (suc (suc (suc (suc (suc (suc zero)))))) h = refl
down_place (suc (suc (suc (suc (suc (suc (suc i))))))) h = absurd (omega arith)

-- those of all names are all
are_flushed : (f : Fabric) → HasLanes f → Each (Holds IsFlushed f) all_lanes → AreFlushed f
are_flushed f lanes_are h =
    let few : length f.requesters ≤ 7 = lanes_are.few in
    let ups : length f.up ≡ length f.requesters = lanes_are.up in
    let downs : length f.down ≡ length f.requesters = lanes_are.down in
    record {
      inward = each_at (Holds IsFlushed f) all_lanes 7 lanes.Inward refl h f.inward refl;
      outward = each_at (Holds IsFlushed f) all_lanes 8 lanes.Outward refl h f.outward refl;
      up = λ i e there.
          let inside : i < length f.up = slice_get_within f.up i e there in
          each_at (Holds IsFlushed f) all_lanes i (lanes.Up (suc i)) (up_place i (omega arith)) h e (ap (some_or refusals.NoSuchPart) there);
      down = λ i e there.
          let inside : i < length f.down = slice_get_within f.down i e there in
          each_at (Holds IsFlushed f) all_lanes (9 + i) (lanes.Down (suc i)) (down_place i (omega arith)) h e (ap (some_or refusals.NoSuchPart) there);
    }

pub turns_flush_all : Laws → LaneLaws → Flushes → (s : Settling) → IsSoundFabric s.fabric → AllHold IsShort s.fabric → AreFlushed (fold lane_turn s all_lanes).fabric
turns_flush_all l ll flushes s sound short =
    are_flushed (fold lane_turn s all_lanes).fabric (turns_stay l all_lanes s sound).sound.lanes (turns_flush l ll flushes all_lanes s sound short)

-- ---- turns of flushed lanes

still_one : LaneLaws → (s : Settling) (lane : LaneName) → IsSoundFabric s.fabric → Holds IsFlushed s.fabric lane → (lane_turn s lane).moved ≡ s.moved
still_one l s lane sound flushed = by_lane (lane_at s.fabric lane) refl
  where
    by_lane : (a : Result LaneEndsView Refusal) → lane_at s.fabric lane ≡ a → (lane_turn s lane).moved ≡ s.moved
    by_lane (Ok e) k =
        let r = right_of s.fabric sound lane e k in
        let f = flushed e k in
        still_turn l r.credits s lane e r.right k f (nothing_sent r.credits e r.right f.kept)
    by_lane (Err r) k = ap (λ (t : Settling). t.moved) (turn_of_none s lane r k)

pub still_turns : Laws → LaneLaws → Flushes → (names : List LaneName) (s : Settling) → IsSoundFabric s.fabric → AllHold IsFlushed s.fabric → (fold lane_turn s names).moved ≡ s.moved
still_turns l ll flushes [] s sound flushed = refl
still_turns l ll flushes (lane ∷ names) s sound flushed =
    still_turns l ll flushes names (lane_turn s lane) (turn_stays l s lane sound).sound
    (λ name. turn_each ll flushes IsFlushed (λ e h. h) s lane sound (λ e k. short_of e (flushed lane e k)) name (flushed name))
    ∙ still_one ll s lane sound (flushed lane)
