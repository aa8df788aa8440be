-- The parts of a fabric in the slots of a closed table, and the fabric that is made of them.
use Rattle.std.proofs.Common.{◌≡◌, ℕ, suc, ◌+◌, ◌*◌, ◌<◌, ⊎_elim, List, [], ◌∷◌, ◌++◌, length, length-append, map, refl, sym, ap, ◌∙◌, subst, arith, Some, Option}
use Rattle.std.specs.Prelude.{slice_get}
use mathlib.Core.Option.{some, some-injective}
use lib.ListN.{get_elem?}
use Rattle.hall_core.proofs.Lists.{at_map, get_push, has_at, get_within}
use Rattle.seq_memory.specs.History.{MemoryView}
use Rattle.requester_core.specs.RequesterView.{RequesterView}
use Rattle.lane_core.specs.Steps.{LaneEndsView}
use Rattle.fabric_steps.specs.Fabric.{Fabric}
use Rattle.fabric_steps.specs.declared.event.LaneName.{LaneName}
use Rattle.fabric_steps.specs.declared.event.LaneName.TheVariants.{Up, Down, Inward, Outward}
use Rattle.fabric_core.specs.Steps.{HasLanes}
use Rattle.hall_laws.specs.declared.part.PartValue.{PartValue}
use Rattle.hall_laws.specs.declared.part.PartValue.TheVariants.{Memory, Requester, Sender, Forward, Back, Receiver}
use Rattle.hall_laws.specs.Parts.{parts_of, lane_slot, HasLane, RequestersAreInSlots, EndsAreInSlots}
use Rattle.hall_core.specs.Closes.{PartAt, EndsAt, StationFrom, StationsAt}

-- the laws of where the parts stand
pub record InSlots : Type 0 where
  pub requester : RequestersAreInSlots
  pub end : EndsAreInSlots

module _ (slots : InSlots) (f : Fabric) (h : HasLanes f) (xs : List (Option PartValue)) (is : xs ≡ map Some (parts_of f)) where
  part_at : (k : ℕ) (v : PartValue) → get_elem? (parts_of f) k ≡ some v → PartAt xs k v
  part_at k v e = ap (λ (l : List (Option PartValue)). get_elem? l k) is ∙ at_map Some (parts_of f) k v e

  pub memory_at : PartAt xs 0 (Memory f.memory)
  memory_at = part_at 0 (Memory f.memory) refl

  pub ends_at : (name : LaneName) (e : LaneEndsView) (k : ℕ) → HasLane f name e → k ≡ lane_slot name → EndsAt xs k e
  ends_at name e k has at = record {
    sender = part_at k (Sender e.sender) (slots.end f h name e 0 k has (omega arith) (omega arith));
    forward = part_at (k + 1) (Forward e.forward) (slots.end f h name e 1 (k + 1) has (omega arith) (omega arith));
    back = part_at (k + 2) (Back e.back) (slots.end f h name e 2 (k + 2) has (omega arith) (omega arith));
    receiver = part_at (k + 3) (Receiver e.receiver) (slots.end f h name e 3 (k + 3) has (omega arith) (omega arith));
  }

  pub station_at : (i k : ℕ) → i < length f.requesters → k ≡ 9 * suc i
      → (q : RequesterView) × (u : LaneEndsView) × (d : LaneEndsView) × StationFrom xs k q u d × (slice_get f.requesters i ≡ Some q) × (slice_get f.up i ≡ Some u) × (slice_get f.down i ≡ Some d)
  station_at i k small at =
      let q = has_at f.requesters i small in
      let u = has_at f.up i (omega (arith, h.up)) in
      let d = has_at f.down i (omega (arith, h.down)) in (
        q.0,
        u.0,
        d.0,
        record {
          requester = part_at k (Requester q.0) (slots.requester f h i q.0 k q.1 (omega arith));
          up = ends_at (Up (suc i)) u.0 (k + 1) (i, record { is_port = refl; there = u.1 }) (omega arith);
          down = ends_at (Down (suc i)) d.0 (k + 5) (i, record { is_port = refl; there = d.1 }) (omega arith);
        },
        q.1,
        u.1,
        d.1,
      )

-- two parts at one slot are one

same_part : (xs : List (Option PartValue)) (k : ℕ) (v w : PartValue) → PartAt xs k v → PartAt xs k w → v ≡ w
same_part xs k v w a b = let e : Some v ≡ Some w = some-injective (Some v) (Some w) (sym a ∙ b) in cc

same_ends : (xs : List (Option PartValue)) (k : ℕ) (e g : LaneEndsView) → EndsAt xs k e → EndsAt xs k g → e ≡ g
same_ends xs k e g a b =
    let s : Sender e.sender ≡ Sender g.sender = same_part xs k (Sender e.sender) (Sender g.sender) a.sender b.sender in
    let w : Forward e.forward ≡ Forward g.forward = same_part xs (k + 1) (Forward e.forward) (Forward g.forward) a.forward b.forward in
    let y : Back e.back ≡ Back g.back = same_part xs (k + 2) (Back e.back) (Back g.back) a.back b.back in
    let r : Receiver e.receiver ≡ Receiver g.receiver = same_part xs (k + 3) (Receiver e.receiver) (Receiver g.receiver) a.receiver b.receiver in
    let is_s : e.sender ≡ g.sender = cc in
    let is_w : e.forward ≡ g.forward = cc in
    let is_y : e.back ≡ g.back = cc in
    let is_r : e.receiver ≡ g.receiver = cc in
    λ i. record { sender = is_s i; forward = is_w i; back = is_y i; receiver = is_r i }

same_requester : (xs : List (Option PartValue)) (k : ℕ) (p q : RequesterView) → PartAt xs k (Requester p) → PartAt xs k (Requester q) → p ≡ q
same_requester xs k p q a b = let e : Requester p ≡ Requester q = same_part xs k (Requester p) (Requester q) a b in cc

same_memory : (xs : List (Option PartValue)) (p q : MemoryView) → PartAt xs 0 (Memory p) → PartAt xs 0 (Memory q) → p ≡ q
same_memory xs p q a b = let e : Memory p ≡ Memory q = same_part xs 0 (Memory p) (Memory q) a b in cc

-- lists of one length, with the same at each place
same_items : {X : Type 0} (xs ys : List X) → length xs ≡ length ys → ((k : ℕ) (x y : X) → slice_get xs k ≡ Some x → slice_get ys k ≡ Some y → x ≡ y) → xs ≡ ys
same_items [] [] n h = refl
same_items [] (y ∷ ys) n h = absurd (omega arith)
same_items (x ∷ xs) [] n h = absurd (omega arith)
same_items (x ∷ xs) (y ∷ ys) n h = let e = h 0 x y refl refl in let r = same_items xs ys (omega arith) (λ k a b p q. h (suc k) a b p q) in cc

-- the fabric of the parts in the slots is the one whose parts they are
pub same_fabric : (slots : InSlots) (f g : Fabric) (xs : List (Option PartValue)) → HasLanes f → xs ≡ map Some (parts_of f) → g.credits ≡ f.credits → PartAt xs 0 (Memory g.memory) → EndsAt xs 1 g.inward → EndsAt xs 5 g.outward
    → StationsAt xs (length f.requesters) g.requesters g.up g.down → g ≡ f
same_fabric slots f g xs h is credits memory inward outward stations =
    let m : g.memory ≡ f.memory = same_memory xs g.memory f.memory memory (memory_at slots f h xs is) in
    let a : g.inward ≡ f.inward = same_ends xs 1 g.inward f.inward inward (ends_at slots f h xs is Inward f.inward 1 refl refl) in
    let b : g.outward ≡ f.outward = same_ends xs 5 g.outward f.outward outward (ends_at slots f h xs is Outward f.outward 5 refl refl) in
    let both : (i : ℕ) → i < length f.requesters
    → (q : RequesterView) × (u : LaneEndsView) × (d : LaneEndsView) × (slice_get g.requesters i ≡ Some q) × (slice_get g.up i ≡ Some u) × (slice_get g.down i ≡ Some d) × (slice_get f.requesters i ≡ Some q) × (slice_get f.up i ≡ Some u) × (slice_get f.down i ≡ Some d) =
    (λ i small.
    let q = has_at g.requesters i (omega (arith, stations.requesters)) in
    let u = has_at g.up i (omega (arith, stations.up)) in
    let d = has_at g.down i (omega (arith, stations.down)) in
    let mine = stations.each i q.0 u.0 d.0 q.1 u.1 d.1 in
    let theirs = station_at slots f h xs is i (9 * suc i) small refl in
    let is_q : theirs.0 ≡ q.0 = same_requester xs (9 * suc i) theirs.0 q.0 theirs.3.requester mine.requester in
    let is_u : theirs.1 ≡ u.0 = same_ends xs (9 * suc i + 1) theirs.1 u.0 theirs.3.up mine.up in
    let is_d : theirs.2 ≡ d.0 = same_ends xs (9 * suc i + 5) theirs.2 d.0 theirs.3.down mine.down in
    (q.0, u.0, d.0, q.1, u.1, d.1, theirs.4 ∙ ap Some is_q, theirs.5 ∙ ap Some is_u, theirs.6 ∙ ap Some is_d)) in
    let qs : g.requesters ≡ f.requesters = same_items g.requesters f.requesters stations.requesters (λ k x y e w. let z = both k (get_within f.requesters k y w) in let p : slice_get g.requesters k ≡ Some z.0 = z.3 in let r : slice_get f.requesters k ≡ Some z.0 = z.6 in cc) in
    let us : g.up ≡ f.up = same_items g.up f.up (stations.up ∙ sym h.up) (λ k x y e w. let small = get_within f.up k y w in let z = both k (omega (arith, h.up)) in let p : slice_get g.up k ≡ Some z.1 = z.4 in let r : slice_get f.up k ≡ Some z.1 = z.7 in cc) in
    let ds : g.down ≡ f.down = same_items g.down f.down (stations.down ∙ sym h.down) (λ k x y e w. let small = get_within f.down k y w in let z = both k (omega (arith, h.down)) in let p : slice_get g.down k ≡ Some z.2 = z.5 in let r : slice_get f.down k ≡ Some z.2 = z.8 in cc) in
    λ i. record { credits = credits i; memory = m i; requesters = qs i; inward = a i; outward = b i; up = us i; down = ds i }

pub no_stations : (xs : List (Option PartValue)) → StationsAt xs 0 [] [] []
no_stations xs = record { requesters = refl; up = refl; down = refl; each = λ i q u d a b c. absurd (cc) }

pub one_station : (xs : List (Option PartValue)) (n : ℕ) (qs : List RequesterView) (us ds : List LaneEndsView) (q : RequesterView) (u d : LaneEndsView) → StationsAt xs n qs us ds → StationFrom xs (9 * suc n) q u d → StationsAt xs (n + 1) (qs ++ q ∷ []) (us ++ u ∷ []) (ds ++ d ∷ [])
one_station xs n qs us ds q u d s one = record {
  requesters = length-append qs (q ∷ []) ∙ (let h = s.requesters in let g : length qs + 1 ≡ n + 1 = omega arith in g);
  up = length-append us (u ∷ []) ∙ (let h = s.up in let g : length us + 1 ≡ n + 1 = omega arith in g);
  down = length-append ds (d ∷ []) ∙ (let h = s.down in let g : length ds + 1 ≡ n + 1 = omega arith in g);
  each = λ i p v e a b c. ⊎_elim
      (λ (x : (i < length qs) × (slice_get qs i ≡ Some p)). ⊎_elim
      (λ (y : (i < length us) × (slice_get us i ≡ Some v)). ⊎_elim
      (λ (z : (i < length ds) × (slice_get ds i ≡ Some e)). s.each i p v e x.1 y.1 z.1)
      (λ (z : (i ≡ length ds) × (d ≡ e)). absurd (let l = x.0 in let k = z.0 in omega (arith, s.requesters, s.down)))
      (get_push ds d i e c))
      (λ (y : (i ≡ length us) × (u ≡ v)). absurd (let l = x.0 in let k = y.0 in omega (arith, s.requesters, s.up)))
      (get_push us u i v b))
      (λ (x : (i ≡ length qs) × (q ≡ p)). ⊎_elim
      (λ (y : (i < length us) × (slice_get us i ≡ Some v)). absurd (let l = y.0 in let k = x.0 in omega (arith, s.requesters, s.up)))
      (λ (y : (i ≡ length us) × (u ≡ v)). ⊎_elim
      (λ (z : (i < length ds) × (slice_get ds i ≡ Some e)). absurd (let l = z.0 in let k = x.0 in omega (arith, s.requesters, s.down)))
      (λ (z : (i ≡ length ds) × (d ≡ e)).
      let at : n ≡ i = sym (x.0 ∙ s.requesters) in
      subst (λ (m : ℕ). StationFrom xs (9 * suc m) p v e) at (subst (λ (w : RequesterView). StationFrom xs (9 * suc n) w v e) x.1 (subst (λ (w : LaneEndsView). StationFrom xs (9 * suc n) q w e) y.1 (subst (λ (w : LaneEndsView). StationFrom xs (9 * suc n) q u w) z.1 one))))
      (get_push ds d i e c))
      (get_push us u i v b))
      (get_push qs q i p a);
}
