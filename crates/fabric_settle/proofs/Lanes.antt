-- The lanes of a fabric by their names.
use Rattle.std.proofs.Common.{◌≡◌, ◌⊎◌, inl, inr, ℕ, zero, suc, List, [], ◌∷◌, refl, ap, Option, Some, None, Ok}
use Rattle.std.specs.Prelude.{slice_get, slice_set}
use Rattle.lane_core.specs.Steps.{LaneEndsView}
use Rattle.fabric_steps.specs.Fabric.{Fabric}
use Rattle.fabric_steps.specs.declared.event.LaneName.{LaneName}
use Rattle.fabric_steps.specs.declared.event.LaneName.TheVariants as lanes
use Rattle.fabric_steps.specs.declared.fault.Refusal.{Refusal}
use Rattle.fabric_steps.specs.declared.fault.Refusal.TheVariants as refusals
use Rattle.fabric_core.specs.Answers.{some_or, part_at, with_part, lane_at, with_lane}

-- ---- lists

set_same : {X : Type 0} (xs : List X) (i : ℕ) (x : X) → slice_get xs i ≡ Some x → slice_set xs i x ≡ xs
set_same [] i x h = absurd cc
set_same (y ∷ xs) zero x h = let is : x ≡ y = cc in ap (λ z. z ∷ xs) is
set_same (y ∷ xs) (suc i) x h = ap (λ zs. y ∷ zs) (set_same xs i x h)

set_twice : {X : Type 0} (xs : List X) (i : ℕ) (x y : X) → slice_set (slice_set xs i x) i y ≡ slice_set xs i y
set_twice [] i x y = refl
set_twice (z ∷ xs) zero x y = refl
set_twice (z ∷ xs) (suc i) x y = ap (λ zs. z ∷ zs) (set_twice xs i x y)

set_there : {X : Type 0} (xs : List X) (i : ℕ) (x y : X) → slice_get xs i ≡ Some x → slice_get (slice_set xs i y) i ≡ Some y
set_there [] i x y h = absurd cc
set_there (z ∷ xs) zero x y h = refl
set_there (z ∷ xs) (suc i) x y h = set_there xs i x y h

-- what stands in the list is the new one, or stood there
set_either : {X : Type 0} (xs : List X) (k : ℕ) (y : X) (i : ℕ) (x : X) → slice_get (slice_set xs k y) i ≡ Some x → (x ≡ y) ⊎ (slice_get xs i ≡ Some x)
set_either [] k y i x h = inr h
set_either (z ∷ xs) zero y zero x h = inl cc
set_either (z ∷ xs) zero y (suc i) x h = inr h
set_either (z ∷ xs) (suc k) y zero x h = inr h
set_either (z ∷ xs) (suc k) y (suc i) x h = set_either xs k y i x h

pub some_ok : {A : Type 0} (r : Refusal) (o : Option A) (x : A) → some_or r o ≡ Ok x → o ≡ Some x
some_ok r (Some y) x h = cc
some_ok r None x h = absurd cc

-- ---- lists by ports

part_same : {X : Type 0} (parts : List X) (port : ℕ) (x : X) → part_at parts port ≡ Ok x → with_part parts port x ≡ parts
part_same parts zero x h = refl
part_same parts (suc i) x h = set_same parts i x (some_ok refusals.NoSuchPart (slice_get parts i) x h)

part_twice : {X : Type 0} (parts : List X) (port : ℕ) (x y : X) → with_part (with_part parts port x) port y ≡ with_part parts port y
part_twice parts zero x y = refl
part_twice parts (suc i) x y = set_twice parts i x y

part_there : {X : Type 0} (parts : List X) (port : ℕ) (x y : X) → part_at parts port ≡ Ok x → part_at (with_part parts port y) port ≡ Ok y
part_there parts zero x y h = absurd cc
part_there parts (suc i) x y h = ap (some_or refusals.NoSuchPart) (set_there parts i x y (some_ok refusals.NoSuchPart (slice_get parts i) x h))

part_either : {X : Type 0} (parts : List X) (port : ℕ) (y : X) (other : ℕ) (x : X) → part_at (with_part parts port y) other ≡ Ok x → (x ≡ y) ⊎ (part_at parts other ≡ Ok x)
part_either parts zero y other x h = inr h
part_either parts (suc k) y zero x h = absurd cc
part_either parts (suc k) y (suc i) x h = elim (set_either parts k y i x (some_ok refusals.NoSuchPart (slice_get (slice_set parts k y) i) x h)) [
  | inl is ↦ inl is
  | inr was ↦ inr (ap (some_or refusals.NoSuchPart) was)
]

-- ---- lanes

pub lane_same : (f : Fabric) (name : LaneName) (e : LaneEndsView) → lane_at f name ≡ Ok e → with_lane f name e ≡ f
lane_same f (lanes.Up port) e h = ap (λ (es : List LaneEndsView). record f { up = es }) (part_same f.up port e h)
lane_same f (lanes.Down port) e h = ap (λ (es : List LaneEndsView). record f { down = es }) (part_same f.down port e h)
lane_same f lanes.Inward e h = let is : e ≡ f.inward = cc in ap (λ (x : LaneEndsView). record f { inward = x }) is
lane_same f lanes.Outward e h = let is : e ≡ f.outward = cc in ap (λ (x : LaneEndsView). record f { outward = x }) is

pub lane_twice : (f : Fabric) (name : LaneName) (d e : LaneEndsView) → with_lane (with_lane f name d) name e ≡ with_lane f name e
lane_twice f (lanes.Up port) d e = ap (λ (es : List LaneEndsView). record f { up = es }) (part_twice f.up port d e)
lane_twice f (lanes.Down port) d e = ap (λ (es : List LaneEndsView). record f { down = es }) (part_twice f.down port d e)
lane_twice f lanes.Inward d e = refl
lane_twice f lanes.Outward d e = refl

pub lane_there : (f : Fabric) (name : LaneName) (d e : LaneEndsView) → lane_at f name ≡ Ok d → lane_at (with_lane f name e) name ≡ Ok e
lane_there f (lanes.Up port) d e h = part_there f.up port d e h
lane_there f (lanes.Down port) d e h = part_there f.down port d e h
lane_there f lanes.Inward d e h = refl
lane_there f lanes.Outward d e h = refl

pub lane_either : (f : Fabric) (name : LaneName) (e : LaneEndsView) (other : LaneName) (x : LaneEndsView) → lane_at (with_lane f name e) other ≡ Ok x → (x ≡ e) ⊎ (lane_at f other ≡ Ok x)
lane_either f (lanes.Up port) e (lanes.Up other) x h = part_either f.up port e other x h
lane_either f (lanes.Up port) e (lanes.Down other) x h = inr h
lane_either f (lanes.Up port) e lanes.Inward x h = inr h
lane_either f (lanes.Up port) e lanes.Outward x h = inr h
lane_either f (lanes.Down port) e (lanes.Up other) x h = inr h
lane_either f (lanes.Down port) e (lanes.Down other) x h = part_either f.down port e other x h
lane_either f (lanes.Down port) e lanes.Inward x h = inr h
lane_either f (lanes.Down port) e lanes.Outward x h = inr h
lane_either f lanes.Inward e (lanes.Up other) x h = inr h
lane_either f lanes.Inward e (lanes.Down other) x h = inr h
lane_either f lanes.Inward e lanes.Inward x h = inl cc
lane_either f lanes.Inward e lanes.Outward x h = inr h
lane_either f lanes.Outward e (lanes.Up other) x h = inr h
lane_either f lanes.Outward e (lanes.Down other) x h = inr h
lane_either f lanes.Outward e lanes.Inward x h = inr h
lane_either f lanes.Outward e lanes.Outward x h = inl cc
