-- The parts by their slots.
use Rattle.std.proofs.Common.{◌≡◌, ℕ, zero, suc, ◌+◌, ◌*◌, ◌<◌, List, [], ◌∷◌, ◌++◌, length, set, refl, sym, ap, ◌∙◌, arith, Some}
use Rattle.std.specs.Prelude.{slice_get}
use mathlib.Core.Option.{some}
use lib.ListN.{get_elem?}
use Rattle.requester_core.specs.RequesterView.{RequesterView}
use Rattle.seq_memory.specs.History.{MemoryView}
use Rattle.lane_core.specs.Steps.{LaneEndsView}
use Rattle.fabric_steps.specs.Fabric.{Fabric}
use Rattle.fabric_steps.specs.declared.event.LaneName.{LaneName}
use Rattle.fabric_steps.specs.declared.event.LaneName.TheVariants.{Up, Down, Inward, Outward}
use Rattle.fabric_core.specs.Steps.{HasLanes}
use Rattle.hall_laws.specs.declared.part.PartValue.{PartValue}
use Rattle.hall_laws.specs.declared.part.PartValue.TheVariants.{Memory, Requester}
use Rattle.hall_laws.specs.Parts.{Station, ends, nine, flat, stations, stations_of, parts_of, slot, lane_slot, HasLane, with_lane}

-- lists

get_left : {X : Type 0} (xs ys : List X) (c : ℕ) → c < length xs → get_elem? (xs ++ ys) c ≡ get_elem? xs c
get_left [] ys c h = absurd (omega arith)
get_left (x ∷ xs) ys zero h = refl
get_left (x ∷ xs) ys (suc c) h = get_left xs ys c (omega arith)

set_left : {X : Type 0} (xs ys : List X) (c : ℕ) (x : X) → c < length xs → set (xs ++ ys) c x ≡ set xs c x ++ ys
set_left [] ys c x h = absurd (omega arith)
set_left (y ∷ xs) ys zero x h = refl
set_left (y ∷ xs) ys (suc c) x h = ap (λ l. y ∷ l) (set_left xs ys c x (omega arith))

pub set_twice : {X : Type 0} (xs : List X) (i : ℕ) (x y : X) → set (set xs i x) i y ≡ set xs i y
set_twice [] i x y = refl
set_twice (z ∷ xs) zero x y = refl
set_twice (z ∷ xs) (suc i) x y = ap (λ l. z ∷ l) (set_twice xs i x y)

pub get_set : {X : Type 0} (xs : List X) (i : ℕ) (x y : X) → slice_get xs i ≡ Some x → slice_get (set xs i y) i ≡ Some y
get_set [] i x y e = absurd (cc)
get_set (z ∷ xs) zero x y e = refl
get_set (z ∷ xs) (suc i) x y e = get_set xs i x y e

pub get_within : {X : Type 0} (xs : List X) (i : ℕ) (x : X) → slice_get xs i ≡ Some x → i < length xs
get_within [] i x e = absurd (cc)
get_within (z ∷ xs) zero x e = omega arith
get_within (z ∷ xs) (suc i) x e = let h = get_within xs i x e in omega arith

pub has_at : {X : Type 0} (xs : List X) (i : ℕ) → i < length xs → (x : X) × (slice_get xs i ≡ Some x)
has_at [] i h = absurd (omega arith)
has_at (x ∷ xs) zero h = (x, refl)
has_at (x ∷ xs) (suc i) h = has_at xs i (omega arith)

-- stations

abbrev nine_more : ℕ → ℕ
nine_more n = suc (suc (suc (suc (suc (suc (suc (suc (suc n))))))))

pub flat_length : (ss : List Station) → length (flat ss) ≡ 9 * length ss
flat_length [] = refl
flat_length (s ∷ ss) = let h = flat_length ss in omega arith

get_flat : (ss : List Station) (i : ℕ) (s : Station) (c k : ℕ) → slice_get ss i ≡ Some s → c < 9 → k ≡ 9 * i + c → get_elem? (flat ss) k ≡ get_elem? (nine s) c
get_flat [] i s c k e h at = absurd (cc)
get_flat (x ∷ ss) zero s c k e h at =
    let is : x ≡ s = cc in
    let same : k ≡ c = omega arith in
    ap (get_elem? (flat (x ∷ ss))) same ∙ (get_left (nine x) (flat ss) c h ∙ ap (λ (y : Station). get_elem? (nine y) c) is)
get_flat (x ∷ ss) (suc i) s c k e h at =
    let same : k ≡ nine_more (9 * i + c) = omega arith in
    ap (get_elem? (flat (x ∷ ss))) same ∙ get_flat ss i s c (9 * i + c) e h refl

set_flat : (ss : List Station) (i : ℕ) (s s' : Station) (c k : ℕ) (v : PartValue) → slice_get ss i ≡ Some s → c < 9 → k ≡ 9 * i + c → nine s' ≡ set (nine s) c v → flat (set ss i s') ≡ set (flat ss) k v
set_flat [] i s s' c k v e h at is = absurd (cc)
set_flat (x ∷ ss) zero s s' c k v e h at is =
    let same : k ≡ c = omega arith in
    let here : x ≡ s = cc in
    ap (λ l. l ++ flat ss) (is ∙ ap (λ (y : Station). set (nine y) c v) (sym here)) ∙ (sym (set_left (nine x) (flat ss) c v h) ∙ ap (λ n. set (flat (x ∷ ss)) n v) (sym same))
set_flat (x ∷ ss) (suc i) s s' c k v e h at is =
    let same : k ≡ nine_more (9 * i + c) = omega arith in
    ap (λ l. nine x ++ l) (set_flat ss i s s' c (9 * i + c) v e h refl is) ∙ ap (λ n. set (flat (x ∷ ss)) n v) (sym same)

pub stations_length : (qs : List RequesterView) (us ds : List LaneEndsView) → length us ≡ length qs → length ds ≡ length qs → length (stations qs us ds) ≡ length qs
stations_length [] us ds h g = refl
stations_length (q ∷ qs) [] ds h g = absurd (omega arith)
stations_length (q ∷ qs) (u ∷ us) [] h g = absurd (omega arith)
stations_length (q ∷ qs) (u ∷ us) (d ∷ ds) h g = let r = stations_length qs us ds (omega arith) (omega arith) in omega arith

get_station : (qs : List RequesterView) (us ds : List LaneEndsView) (i : ℕ) (q : RequesterView) (u d : LaneEndsView) → slice_get qs i ≡ Some q → slice_get us i ≡ Some u → slice_get ds i ≡ Some d
    → slice_get (stations qs us ds) i ≡ Some (record { node = Requester q; first = u; second = d })
get_station [] us ds i q u d a b c = absurd (cc)
get_station (x ∷ qs) [] ds i q u d a b c = absurd (cc)
get_station (x ∷ qs) (y ∷ us) [] i q u d a b c = absurd (cc)
get_station (x ∷ qs) (y ∷ us) (z ∷ ds) zero q u d a b c = cc
get_station (x ∷ qs) (y ∷ us) (z ∷ ds) (suc i) q u d a b c = get_station qs us ds i q u d a b c

set_requester : (qs : List RequesterView) (us ds : List LaneEndsView) (i : ℕ) (q : RequesterView) (u d : LaneEndsView) → slice_get us i ≡ Some u → slice_get ds i ≡ Some d
    → stations (set qs i q) us ds ≡ set (stations qs us ds) i (record { node = Requester q; first = u; second = d })
set_requester [] us ds i q u d b c = refl
set_requester (x ∷ qs) [] ds i q u d b c = absurd (cc)
set_requester (x ∷ qs) (y ∷ us) [] i q u d b c = absurd (cc)
set_requester (x ∷ qs) (y ∷ us) (z ∷ ds) zero q u d b c = cc
set_requester (x ∷ qs) (y ∷ us) (z ∷ ds) (suc i) q u d b c = ap (λ l. record { node = Requester x; first = y; second = z } ∷ l) (set_requester qs us ds i q u d b c)

set_up : (qs : List RequesterView) (us ds : List LaneEndsView) (i : ℕ) (q : RequesterView) (u d : LaneEndsView) → slice_get qs i ≡ Some q → slice_get ds i ≡ Some d
    → stations qs (set us i u) ds ≡ set (stations qs us ds) i (record { node = Requester q; first = u; second = d })
set_up [] us ds i q u d a c = absurd (cc)
set_up (x ∷ qs) [] ds i q u d a c = refl
set_up (x ∷ qs) (y ∷ us) [] i q u d a c = absurd (cc)
set_up (x ∷ qs) (y ∷ us) (z ∷ ds) zero q u d a c = cc
set_up (x ∷ qs) (y ∷ us) (z ∷ ds) (suc i) q u d a c = ap (λ l. record { node = Requester x; first = y; second = z } ∷ l) (set_up qs us ds i q u d a c)

set_down : (qs : List RequesterView) (us ds : List LaneEndsView) (i : ℕ) (q : RequesterView) (u d : LaneEndsView) → slice_get qs i ≡ Some q → slice_get us i ≡ Some u
    → stations qs us (set ds i d) ≡ set (stations qs us ds) i (record { node = Requester q; first = u; second = d })
set_down [] us ds i q u d a b = absurd (cc)
set_down (x ∷ qs) [] ds i q u d a b = absurd (cc)
set_down (x ∷ qs) (y ∷ us) [] i q u d a b = refl
set_down (x ∷ qs) (y ∷ us) (z ∷ ds) zero q u d a b = cc
set_down (x ∷ qs) (y ∷ us) (z ∷ ds) (suc i) q u d a b = ap (λ l. record { node = Requester x; first = y; second = z } ∷ l) (set_down qs us ds i q u d a b)

-- the parts of a fabric

pub parts_length : (f : Fabric) → HasLanes f → length (parts_of f) ≡ 9 * (1 + length f.requesters)
parts_length f h = let r = stations_length f.requesters f.up f.down h.up h.down in let g = flat_length (stations_of f) in omega arith

pub get_memory : (f : Fabric) → get_elem? (parts_of f) 0 ≡ some (Memory f.memory)
get_memory f = refl

pub put_memory : (f : Fabric) (m : MemoryView) → parts_of (record f { memory = m }) ≡ set (parts_of f) 0 (Memory m)
put_memory f m = refl

module _ (f : Fabric) (h : HasLanes f) (i : ℕ) where
  station : (q : RequesterView) → slice_get f.requesters i ≡ Some q → (u : LaneEndsView) × (d : LaneEndsView) × (slice_get f.up i ≡ Some u) × (slice_get f.down i ≡ Some d)
  station q a =
      let small = get_within f.requesters i q a in
      let u = has_at f.up i (omega (arith, h.up)) in
      let d = has_at f.down i (omega (arith, h.down)) in (u.0, d.0, u.1, d.1)

  pub get_requester : (q : RequesterView) (k : ℕ) → slice_get f.requesters i ≡ Some q → k ≡ slot (suc i) 0 → get_elem? (parts_of f) k ≡ some (Requester q)
  get_requester q k a at =
      let s = station q a in
      get_flat (stations_of f) (suc i) (record { node = Requester q; first = s.0; second = s.1 }) 0 k (get_station f.requesters f.up f.down i q s.0 s.1 a s.2 s.3) (omega arith) at

  pub put_requester : (q q' : RequesterView) (k : ℕ) → slice_get f.requesters i ≡ Some q → k ≡ slot (suc i) 0 → parts_of (record f { requesters = set f.requesters i q' }) ≡ set (parts_of f) k (Requester q')
  put_requester q q' k a at =
      let s = station q a in
      let old : Station = record { node = Requester q; first = s.0; second = s.1 } in
      let new : Station = record { node = Requester q'; first = s.0; second = s.1 } in
      ap (λ (ss : List Station). flat (record { node = Memory f.memory; first = f.inward; second = f.outward } ∷ ss)) (set_requester f.requesters f.up f.down i q' s.0 s.1 s.2 s.3)
      ∙ set_flat (stations_of f) (suc i) old new 0 k (Requester q') (get_station f.requesters f.up f.down i q s.0 s.1 a s.2 s.3) (omega arith) at refl

-- the ends of a lane

pub get_end : (f : Fabric) (h : HasLanes f) (name : LaneName) (e : LaneEndsView) (c k : ℕ) → HasLane f name e → c < 4 → k ≡ lane_slot name + c → get_elem? (parts_of f) k ≡ get_elem? (ends e) c
get_end f h (Up port) e c k (place, has) small at =
    let in_up = get_within f.up place e has.there in
    let q = has_at f.requesters place (omega (arith, h.up)) in
    let d = has_at f.down place (omega (arith, h.down, h.up)) in
    get_flat (stations_of f) (suc place) (record { node = Requester q.0; first = e; second = d.0 }) (suc c) k (get_station f.requesters f.up f.down place q.0 e d.0 q.1 has.there d.1) (omega arith) (omega (arith, has.is_port, at))
    ∙ get_left (ends e) (ends d.0) c small
get_end f h (Down port) e c k (place, has) small at =
    let in_down = get_within f.down place e has.there in
    let q = has_at f.requesters place (omega (arith, h.down)) in
    let u = has_at f.up place (omega (arith, h.down, h.up)) in
    get_flat (stations_of f) (suc place) (record { node = Requester q.0; first = u.0; second = e }) (suc (suc (suc (suc (suc c))))) k (get_station f.requesters f.up f.down place q.0 u.0 e q.1 u.1 has.there) (omega arith) (omega (arith, has.is_port, at))
get_end f h Inward e c k has small at = get_flat (stations_of f) 0 (record { node = Memory f.memory; first = f.inward; second = f.outward }) (suc c) k refl (omega arith) (omega arith)
    ∙ (get_left (ends f.inward) (ends f.outward) c small ∙ ap (λ (x : LaneEndsView). get_elem? (ends x) c) has)
get_end f h Outward e c k has small at = get_flat (stations_of f) 0 (record { node = Memory f.memory; first = f.inward; second = f.outward }) (suc (suc (suc (suc (suc c))))) k refl (omega arith) (omega arith)
    ∙ ap (λ (x : LaneEndsView). get_elem? (ends x) c) has

pub put_end : (f : Fabric) (h : HasLanes f) (name : LaneName) (e e' : LaneEndsView) (c k : ℕ) (v : PartValue) → HasLane f name e → c < 4 → k ≡ lane_slot name + c → ends e' ≡ set (ends e) c v → parts_of (with_lane f name e') ≡ set (parts_of f) k v
put_end f h (Up (suc port)) e e' c k v (place, has) small at is =
    let in_up = get_within f.up place e has.there in
    let q = has_at f.requesters place (omega (arith, h.up)) in
    let d = has_at f.down place (omega (arith, h.down, h.up)) in
    let same : port ≡ place = (let p = has.is_port in omega arith) in
    let old : Station = record { node = Requester q.0; first = e; second = d.0 } in
    let new : Station = record { node = Requester q.0; first = e'; second = d.0 } in
    ap (λ (n : ℕ). parts_of (record f { up = set f.up n e' })) same
    ∙ (ap (λ (ss : List Station). flat (record { node = Memory f.memory; first = f.inward; second = f.outward } ∷ ss)) (set_up f.requesters f.up f.down place q.0 e' d.0 q.1 d.1)
    ∙ set_flat (stations_of f) (suc place) old new (suc c) k v (get_station f.requesters f.up f.down place q.0 e d.0 q.1 has.there d.1) (omega arith) (omega (arith, same, at))
    (ap (λ l. Requester q.0 ∷ (l ++ ends d.0)) is ∙ ap (λ l. Requester q.0 ∷ l) (sym (set_left (ends e) (ends d.0) c v small))))
put_end f h (Up zero) e e' c k v (place, has) small at is = absurd (let p = has.is_port in omega arith)
put_end f h (Down (suc port)) e e' c k v (place, has) small at is =
    let in_down = get_within f.down place e has.there in
    let q = has_at f.requesters place (omega (arith, h.down)) in
    let u = has_at f.up place (omega (arith, h.down, h.up)) in
    let same : port ≡ place = (let p = has.is_port in omega arith) in
    let old : Station = record { node = Requester q.0; first = u.0; second = e } in
    let new : Station = record { node = Requester q.0; first = u.0; second = e' } in
    ap (λ (n : ℕ). parts_of (record f { down = set f.down n e' })) same
    ∙ (ap (λ (ss : List Station). flat (record { node = Memory f.memory; first = f.inward; second = f.outward } ∷ ss)) (set_down f.requesters f.up f.down place q.0 u.0 e' q.1 u.1)
    ∙ set_flat (stations_of f) (suc place) old new (suc (suc (suc (suc (suc c))))) k v (get_station f.requesters f.up f.down place q.0 u.0 e q.1 u.1 has.there) (omega arith) (omega (arith, same, at))
    (ap (λ l. Requester q.0 ∷ (ends u.0 ++ l)) is))
put_end f h (Down zero) e e' c k v (place, has) small at is = absurd (let p = has.is_port in omega arith)
put_end f h Inward e e' c k v has small at is =
    let old : Station = record { node = Memory f.memory; first = f.inward; second = f.outward } in
    let new : Station = record { node = Memory f.memory; first = e'; second = f.outward } in
    set_flat (stations_of f) 0 old new (suc c) k v refl (omega arith) (omega arith)
    (ap (λ l. Memory f.memory ∷ (l ++ ends f.outward)) (is ∙ ap (λ (x : LaneEndsView). set (ends x) c v) (sym has)) ∙ ap (λ l. Memory f.memory ∷ l) (sym (set_left (ends f.inward) (ends f.outward) c v small)))
put_end f h Outward e e' c k v has small at is =
    let old : Station = record { node = Memory f.memory; first = f.inward; second = f.outward } in
    let new : Station = record { node = Memory f.memory; first = f.inward; second = e' } in
    set_flat (stations_of f) 0 old new (suc (suc (suc (suc (suc c))))) k v refl (omega arith) (omega arith)
    (ap (λ l. Memory f.memory ∷ (ends f.inward ++ l)) (is ∙ ap (λ (x : LaneEndsView). set (ends x) c v) (sym has)))
