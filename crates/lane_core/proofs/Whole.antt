-- The credits of a lane in whole numbers.
use Rattle.std.proofs.Common.{◌≡◌, ◌↔◌, ◌+◌, ◌<◌, ◌≤◌, Bool, true, false, IsTrue, List, refl, sym, subst, arith, Result, Err}
use Rattle.dllp_core.specs.declared.packet.Class.{Class}
use Rattle.flow_control.specs.declared.needs.Need.{Need}
use Rattle.flow_control.specs.declared.limits.LaneCredits.{LaneCredits}
use Rattle.flow_control.specs.Limits.{IsInLimits}
use Rattle.flow_control.specs.Credits.{most, allowance, grant, first_of, gate_covers}
use Rattle.flow_control.specs.Account.{Direction, demand, IsRight as IsBalanced}
use Rattle.lane_core.specs.Steps.{LaneEndsView, new_lane}
use Rattle.lane_core.specs.Calls.{Call, AreCalls, after_calls, on_the_way}
use Rattle.lane_core.specs.Credit.{needs_of, events_in, numbers_of, HasRoom}
use Rattle.lane_core.specs.declared.packet.LaneRefusal.{LaneRefusal}
use Rattle.lane_core.specs.declared.packet.LaneRefusal.TheVariants.{NoCredits}
use Rattle.lane_core.proofs.Below.{Below}
use Rattle.lane_core.proofs.Directions.{lane_direction}

pub whole_numbers : Below → (credits : LaneCredits) (calls : List Call) (c : Class) (p : _) → IsInLimits credits → AreCalls calls → 0 < first_of c p credits →
    IsBalanced p (first_of c p credits) (allowance c p (after_calls (new_lane credits) calls).sender.gate) (grant c p (after_calls (new_lane credits) calls).receiver.ledger)
    (numbers_of credits calls c p) (demand c p (needs_of (after_calls (new_lane credits) calls).receiver.queue)) (demand c p (needs_of (on_the_way (after_calls (new_lane credits) calls))))
whole_numbers laws credits calls c p l k f =
    subst (λ (d : Direction). IsBalanced p (first_of c p credits) (allowance c p d.gate) (grant c p d.ledger) (numbers_of credits calls c p) (demand c p d.queue) (demand c p d.on_the_way))
    (sym (lane_direction laws credits calls k)) (laws.right credits (events_in (new_lane credits) calls) c p l f)

pub unused : Below → (credits : LaneCredits) (calls : List Call) (c : Class) (p : _) → IsInLimits credits → AreCalls calls → 0 < first_of c p credits →
    (numbers_of credits calls c p).known ≤ (numbers_of credits calls c p).used + most p
unused laws credits calls c p l k f =
    let w = whole_numbers laws credits calls c p l k f in
    let first : first_of c p credits ≤ most p = (laws.account credits (events_in (new_lane credits) calls) l c p).small in
    omega (arith, w.known_given, w.balance, first)

-- the gate covers exactly the needs that there is room for
abbrev pub IsRoom : Type 0
IsRoom =
    (credits : LaneCredits) (calls : List Call) (need : Need) → IsInLimits credits → AreCalls calls → need.header ≤ 127 → need.units ≤ 2047 →
    IsTrue (gate_covers (after_calls (new_lane credits) calls).sender.gate need) ↔ HasRoom credits (numbers_of credits calls) need

pub room : Below → IsRoom
room laws credits calls need l k h u =
    subst (λ (d : Direction). IsTrue (gate_covers d.gate need) ↔ HasRoom credits (numbers_of credits calls) need) (sym (lane_direction laws credits calls k))
    (laws.room credits (events_in (new_lane credits) calls) need l h u)

-- a call refuses for lack of credits exactly where there is no room

turned : (b : Bool) (R : Type 0) → IsTrue b ↔ R → (b ≡ false) ↔ (¬ R)
turned true R h = (λ e. cc, λ n. absurd (n (h.0 refl)))
turned false R h = (λ e r. let t : IsTrue false = h.1 r in cc, λ n. refl)

pub no_room : {A : Type 0} → IsRoom → (r : Result A LaneRefusal) (e : LaneEndsView) (need : Need) → (r ≡ Err (NoCredits need.class)) ↔ (gate_covers e.sender.gate need ≡ false) →
    need.header ≤ 127 → need.units ≤ 2047 → (credits : LaneCredits) (calls : List Call) → IsInLimits credits → AreCalls calls → after_calls (new_lane credits) calls ≡ e →
    (r ≡ Err (NoCredits need.class)) ↔ (¬ HasRoom credits (numbers_of credits calls) need)
no_room room r e need n h u credits calls l k q =
    let gate : IsTrue (gate_covers e.sender.gate need) ↔ HasRoom credits (numbers_of credits calls) need =
    subst (λ (m : LaneEndsView). IsTrue (gate_covers m.sender.gate need) ↔ HasRoom credits (numbers_of credits calls) need) q (room credits calls need l k h u) in
    let turn = turned (gate_covers e.sender.gate need) (HasRoom credits (numbers_of credits calls) need) gate in
    (λ x. turn.0 (n.0 x), λ x. n.1 (turn.1 x))
