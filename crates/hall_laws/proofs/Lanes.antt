-- One lane of a fabric, by its name.
use Rattle.std.proofs.Common.{◌≡◌, ℕ, zero, suc, ◌+◌, ◌*◌, ◌<◌, List, length, length-set, set, refl, sym, ap, ◌∙◌, arith}
use Rattle.std.specs.Prelude.{slice_get}
use Rattle.lane_core.specs.Steps.{LaneEndsView}
use Rattle.fabric_steps.specs.Fabric.{Fabric}
use Rattle.fabric_steps.specs.declared.event.LaneName.{LaneName}
use Rattle.fabric_steps.specs.declared.event.LaneName.TheVariants.{Up, Down, Inward, Outward}
use Rattle.fabric_core.specs.Steps.{HasLanes}
use Rattle.hall_laws.specs.declared.part.PartValue.{PartValue}
use Rattle.hall_laws.specs.declared.part.Part.{Part}
use Rattle.hall_laws.specs.declared.part.Part.TheVariants as names
use Rattle.hall_laws.specs.Parts.{ends, parts_of, lane_slot, part_slot, HasLane, IsLaneName, IsPartName, with_lane}
use Rattle.atomic_table.specs.Seated.{TableId}
use Rattle.hall_laws.specs.Calls.{IsSized, HasSlot}
use Rattle.hall_laws.proofs.Parts.{has_at, get_set, set_twice, put_end}

pub lane_there : (f : Fabric) → HasLanes f → (name : LaneName) → IsLaneName (length f.requesters) name → (e : LaneEndsView) × HasLane f name e
lane_there f h (Up zero) n = absurd (let z = n.0 in omega arith)
lane_there f h (Up (suc place)) n = let e = has_at f.up place (omega (arith, h.up, n.1)) in (e.0, (place, record { is_port = refl; there = e.1 }))
lane_there f h (Down zero) n = absurd (let z = n.0 in omega arith)
lane_there f h (Down (suc place)) n = let e = has_at f.down place (omega (arith, h.down, n.1)) in (e.0, (place, record { is_port = refl; there = e.1 }))
lane_there f h Inward n = (f.inward, refl)
lane_there f h Outward n = (f.outward, refl)

pub with_lane_lanes : (f : Fabric) (name : LaneName) (e : LaneEndsView) → HasLanes f → HasLanes (with_lane f name e)
with_lane_lanes f (Up zero) e h = record { few = h.few; up = h.up; down = h.down }
with_lane_lanes f (Up (suc n)) e h = record { few = h.few; up = length-set f.up n e ∙ h.up; down = h.down }
with_lane_lanes f (Down zero) e h = record { few = h.few; up = h.up; down = h.down }
with_lane_lanes f (Down (suc n)) e h = record { few = h.few; up = h.up; down = length-set f.down n e ∙ h.down }
with_lane_lanes f Inward e h = record { few = h.few; up = h.up; down = h.down }
with_lane_lanes f Outward e h = record { few = h.few; up = h.up; down = h.down }

with_lane_has : (f : Fabric) (name : LaneName) (e e' : LaneEndsView) → HasLane f name e → HasLane (with_lane f name e') name e'
with_lane_has f (Up zero) e e' (place, has) = absurd (let p = has.is_port in omega arith)
with_lane_has f (Up (suc n)) e e' (place, has) =
    let same : place ≡ n = (let p = has.is_port in omega arith) in
    (n, record { is_port = refl; there = get_set f.up n e e' (ap (slice_get f.up) (sym same) ∙ has.there) })
with_lane_has f (Down zero) e e' (place, has) = absurd (let p = has.is_port in omega arith)
with_lane_has f (Down (suc n)) e e' (place, has) =
    let same : place ≡ n = (let p = has.is_port in omega arith) in
    (n, record { is_port = refl; there = get_set f.down n e e' (ap (slice_get f.down) (sym same) ∙ has.there) })
with_lane_has f Inward e e' has = refl
with_lane_has f Outward e e' has = refl

with_lane_twice : (f : Fabric) (name : LaneName) (e e' : LaneEndsView) → with_lane (with_lane f name e) name e' ≡ with_lane f name e'
with_lane_twice f (Up zero) e e' = refl
with_lane_twice f (Up (suc n)) e e' = ap (λ (l : List LaneEndsView). record f { up = l }) (set_twice f.up n e e')
with_lane_twice f (Down zero) e e' = refl
with_lane_twice f (Down (suc n)) e e' = ap (λ (l : List LaneEndsView). record f { down = l }) (set_twice f.down n e e')
with_lane_twice f Inward e e' = refl
with_lane_twice f Outward e e' = refl

-- two ends of a lane change
pub put_two : (f : Fabric) (h : HasLanes f) (name : LaneName) (e mid e' : LaneEndsView) (c d j k : ℕ) (v w : PartValue) → HasLane f name e → c < 4 → d < 4 → j ≡ lane_slot name + c → k ≡ lane_slot name + d
    → ends mid ≡ set (ends e) c v → ends e' ≡ set (ends mid) d w → parts_of (with_lane f name e') ≡ set (set (parts_of f) j v) k w
put_two f h name e mid e' c d j k v w has small_c small_d at_j at_k first second =
    ap parts_of (sym (with_lane_twice f name mid e'))
    ∙ (put_end (with_lane f name mid) (with_lane_lanes f name mid h) name mid e' d k w (with_lane_has f name e mid has) small_d at_k second
    ∙ ap (λ (l : List PartValue). set l k w) (put_end f h name e mid c j v has small_c at_j first))

-- the slots of a lane are in the table
pub in_table : (count : ℕ) (name : LaneName) (c : ℕ) → IsLaneName count name → c < 4 → lane_slot name + c < 9 * (1 + count)
in_table count (Up port) c n small = let a = n.0 in let b = n.1 in omega arith
in_table count (Down port) c n small = let a = n.0 in let b = n.1 in omega arith
in_table count Inward c n small = omega arith
in_table count Outward c n small = omega arith

-- and those of all parts
pub part_in_table : (count : ℕ) (part : Part) → IsPartName count part → part_slot part < 9 * (1 + count)
part_in_table count names.Memory n = omega arith
part_in_table count (names.Requester port) n = let a = n.0 in let b = n.1 in omega arith
part_in_table count (names.SenderEnd name) n = let small = in_table count name 0 n (omega arith) in omega (arith, small)
part_in_table count (names.ForwardWire name) n = in_table count name 1 n (omega arith)
part_in_table count (names.BackWire name) n = in_table count name 2 n (omega arith)
part_in_table count (names.ReceiverEnd name) n = in_table count name 3 n (omega arith)

pub part_within : (z : TableId) (count : ℕ) (part : Part) → IsSized z count → IsPartName count part → HasSlot z (part_slot part)
part_within z count part sized named = let small = part_in_table count part named in (omega (arith, sized.0, small), omega (arith, sized.1, small), omega (arith, sized.1, sized.2))
