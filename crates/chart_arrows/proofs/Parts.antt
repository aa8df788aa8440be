-- The lanes of a fabric by their names and by their places in a chart's list.
use Rattle.std.proofs.Common.{◌≡◌, ◌≢◌, ℕ, zero, suc, ◌+◌, ◌%◌, ◌≤◌, ◌<◌, Bool, true, false, List, [], ◌∷◌, length, refl, sym, ap, subst, Option, Some, None, Result, Ok, Err, arith}
use Rattle.std.specs.Prelude.{◌==◌, nat_lt, if◌then◌else◌, slice_get, slice_set}
use Rattle.std.proofs.lemmas.Bool.{eqb-true, ltb-true, ltb-false, lt-ltb, le-ltb, ne_eqb}
use Rattle.lane_core.specs.Steps.{LaneEndsView}
use Rattle.fabric_steps.specs.Fabric.{Fabric}
use Rattle.fabric_steps.specs.declared.event.LaneName.{LaneName}
use Rattle.fabric_steps.specs.declared.event.LaneName.TheVariants as lanes
use Rattle.fabric_steps.specs.declared.fault.Refusal.{Refusal}
use Rattle.fabric_steps.specs.declared.fault.Refusal.TheVariants as refusals
use Rattle.fabric_core.specs.Answers.{and_then, map_ok, some_or, part_at, with_part, with_lane, lane_to, port_from, or_no_port}
use Rattle.fabric_core.specs.Answers as parts
use Rattle.chart_links.specs.Lanes.{place_of, lane_at}

-- ---- lists

pub get_set_other : {X : Type 0} (xs : List X) (p k : ℕ) (y : X) → p ≢ k → slice_get (slice_set xs p y) k ≡ slice_get xs k
get_set_other [] p k y ne = refl
get_set_other (x ∷ xs) zero zero y ne = absurd (ne refl)
get_set_other (x ∷ xs) zero (suc k) y ne = refl
get_set_other (x ∷ xs) (suc p) zero y ne = refl
get_set_other (x ∷ xs) (suc p) (suc k) y ne = get_set_other xs p k y (λ e. ne (ap suc e))

pub get_set_same : {X : Type 0} (xs : List X) (p : ℕ) (x y : X) → slice_get xs p ≡ Some x → slice_get (slice_set xs p y) p ≡ Some y
get_set_same [] p x y e = absurd cc
get_set_same (z ∷ xs) zero x y e = refl
get_set_same (z ∷ xs) (suc p) x y e = get_set_same xs p x y e

pub len_set : {X : Type 0} (xs : List X) (p : ℕ) (y : X) → length (slice_set xs p y) ≡ length xs
len_set [] p y = refl
len_set (x ∷ xs) zero y = refl
len_set (x ∷ xs) (suc p) y = ap suc (len_set xs p y)

-- ---- the lanes of a fabric

pub record Few (f : Fabric) : Type 0 where
  pub up : length f.up ≤ 7
  pub down : length f.down ≤ 7

abbrev pub good : {X : Type 0} → X → Result X Refusal
good a = Ok a

abbrev pub ok_or : {X : Type 0} → X → Result X Refusal → X
ok_or d (Ok x) = x
ok_or d (Err r) = d

pub in_some : {X : Type 0} (o : Option X) (x : X) (r : Refusal) → some_or r o ≡ Ok x → o ≡ Some x
in_some None x r e = absurd cc
in_some (Some y) x r e = ap Some (ap (ok_or y) e)

pub in_set : {X : Type 0} (xs : List X) (p : ℕ) (x : X) (r : Refusal) → some_or r (slice_get xs p) ≡ Ok x → slice_get xs p ≡ Some x
in_set xs p x r e = in_some (slice_get xs p) x r e

pub part_same : (xs : List LaneEndsView) (p : ℕ) (x y : LaneEndsView) → part_at xs p ≡ Ok x → part_at (with_part xs p y) p ≡ Ok y
part_same xs zero x y e = absurd cc
part_same xs (suc p) x y e = ap (some_or refusals.NoSuchPart) (get_set_same xs p x y (in_set xs p x refusals.NoSuchPart e))

pub part_other : (xs : List LaneEndsView) (p q : ℕ) (y : LaneEndsView) → p ≢ q → part_at (with_part xs p y) q ≡ part_at xs q
part_other xs zero q y ne = refl
part_other xs (suc p) zero y ne = refl
part_other xs (suc p) (suc q) y ne = ap (some_or refusals.NoSuchPart) (get_set_other xs p q y (λ e. ne (ap suc e)))

pub part_len : (xs : List LaneEndsView) (p : ℕ) (y : LaneEndsView) → length (with_part xs p y) ≡ length xs
part_len xs zero y = refl
part_len xs (suc p) y = len_set xs p y

pub in_list : (xs : List LaneEndsView) (p : ℕ) (x : LaneEndsView) → slice_get xs p ≡ Some x → p < length xs
in_list [] p x e = absurd cc
in_list (y ∷ ys) zero x e = omega arith
in_list (y ∷ ys) (suc p) x e =
    let less : p < length ys = in_list ys p x e in
    omega (arith, less)

pub part_first : (xs : List LaneEndsView) (p : ℕ) (x : LaneEndsView) → part_at xs p ≡ Ok x → 1 ≤ p
part_first xs zero x e = absurd cc
part_first xs (suc p) x e = omega arith

pub part_last : (xs : List LaneEndsView) (p : ℕ) (x : LaneEndsView) → part_at xs p ≡ Ok x → p ≤ length xs
part_last xs zero x e = absurd cc
part_last xs (suc p) x e =
    let less : p < length xs = in_list xs p x (in_set xs p x refusals.NoSuchPart e) in
    omega (arith, less)

-- ---- the list of lanes

pub by_place : (k : ℕ) (a b c : Bool) → (k == 0) ≡ a → nat_lt k 8 ≡ b → (k == 8) ≡ c → k < 16
    → place_of (if a then lanes.Inward else (if b then lanes.Up k else (if c then lanes.Outward else lanes.Down (k % 8)))) ≡ k
by_place k true b c is_zero low is_eight lt = sym (eqb-true k 0 is_zero)
by_place k false true c is_zero low is_eight lt =
    let less : k < 8 = ltb-true k 8 low in
    omega (arith, less)
by_place k false false true is_zero low is_eight lt = sym (eqb-true k 8 is_eight)
by_place k false false false is_zero low is_eight lt =
    let more : 8 ≤ k = ltb-false k 8 low in
    omega (arith, more, lt)

pub place_at : (k : ℕ) → k < 16 → place_of (lane_at k) ≡ k
place_at k lt = by_place k (k == 0) (nat_lt k 8) (k == 8) refl refl refl lt

pub up_at : (k port : ℕ) → k ≡ port → 1 ≤ port → port ≤ 7 → lane_at k ≡ lanes.Up port
up_at k port is low high =
    let no_zero : (k == 0) ≡ false = ne_eqb k 0 (λ z. omega (arith, z, is, low)) in
    let less : nat_lt k 8 ≡ true = lt-ltb k 8 (omega (arith, is, high)) in
    rw (no_zero, less, is) refl

pub down_at : (k port : ℕ) → k ≡ 8 + port → 1 ≤ port → port ≤ 7 → lane_at k ≡ lanes.Down port
down_at k port is low high =
    let no_zero : (k == 0) ≡ false = ne_eqb k 0 (λ z. omega (arith, z, is)) in
    let more : nat_lt k 8 ≡ false = le-ltb k 8 (omega (arith, is)) in
    let no_eight : (k == 8) ≡ false = ne_eqb k 8 (λ z. omega (arith, z, is, low)) in
    let port_is : k % 8 ≡ port = omega (arith, is, low, high) in
    rw (no_zero, more, no_eight, port_is) refl

pub lane_is : (f : Fabric) (lane : LaneName) (e : LaneEndsView) (k : ℕ) → Few f → parts.lane_at f lane ≡ Ok e → place_of lane ≡ k → lane_at k ≡ lane
lane_is f lanes.Inward e k few has is = subst (λ (j : ℕ). lane_at j ≡ lanes.Inward) is refl
lane_is f lanes.Outward e k few has is = subst (λ (j : ℕ). lane_at j ≡ lanes.Outward) is refl
lane_is f (lanes.Up port) e k few has is =
    let low : 1 ≤ port = part_first f.up port e has in
    let high : port ≤ length f.up = part_last f.up port e has in
    let most : length f.up ≤ 7 = few.up in
    let small : k ≡ port = omega (arith, is, low, high, most) in
    up_at k port small low (omega (arith, high, most))
lane_is f (lanes.Down port) e k few has is =
    let low : 1 ≤ port = part_first f.down port e has in
    let high : port ≤ length f.down = part_last f.down port e has in
    let most : length f.down ≤ 7 = few.down in
    let small : k ≡ 8 + port = omega (arith, is, low, high, most) in
    down_at k port small low (omega (arith, high, most))

pub few_more : (f f' : Fabric) → length f'.up ≡ length f.up → length f'.down ≡ length f.down → Few f → Few f'
few_more f f' ups downs few = record { up = subst (λ (n : ℕ). n ≤ 7) (sym ups) few.up; down = subst (λ (n : ℕ). n ≤ 7) (sym downs) few.down }

-- ---- a lane with other ends

pub ends_same : (f : Fabric) (lane : LaneName) (e e' : LaneEndsView) → parts.lane_at f lane ≡ Ok e → parts.lane_at (with_lane f lane e') lane ≡ Ok e'
ends_same f (lanes.Up port) e e' has = part_same f.up port e e' has
ends_same f (lanes.Down port) e e' has = part_same f.down port e e' has
ends_same f lanes.Inward e e' has = refl
ends_same f lanes.Outward e e' has = refl

pub ends_other : (f : Fabric) (lane other : LaneName) (e' : LaneEndsView) → lane ≢ other → parts.lane_at (with_lane f lane e') other ≡ parts.lane_at f other
ends_other f (lanes.Up port) (lanes.Up q) e' ne = part_other f.up port q e' (λ e. ne (ap lanes.Up e))
ends_other f (lanes.Up port) (lanes.Down q) e' ne = refl
ends_other f (lanes.Up port) lanes.Inward e' ne = refl
ends_other f (lanes.Up port) lanes.Outward e' ne = refl
ends_other f (lanes.Down port) (lanes.Down q) e' ne = part_other f.down port q e' (λ e. ne (ap lanes.Down e))
ends_other f (lanes.Down port) (lanes.Up q) e' ne = refl
ends_other f (lanes.Down port) lanes.Inward e' ne = refl
ends_other f (lanes.Down port) lanes.Outward e' ne = refl
ends_other f lanes.Inward lanes.Inward e' ne = absurd (ne refl)
ends_other f lanes.Inward (lanes.Up q) e' ne = refl
ends_other f lanes.Inward (lanes.Down q) e' ne = refl
ends_other f lanes.Inward lanes.Outward e' ne = refl
ends_other f lanes.Outward lanes.Outward e' ne = absurd (ne refl)
ends_other f lanes.Outward (lanes.Up q) e' ne = refl
ends_other f lanes.Outward (lanes.Down q) e' ne = refl
ends_other f lanes.Outward lanes.Inward e' ne = refl

pub few_with : (f : Fabric) (lane : LaneName) (e' : LaneEndsView) → Few f → Few (with_lane f lane e')
few_with f (lanes.Up port) e' few = few_more f (with_lane f (lanes.Up port) e') (part_len f.up port e') refl few
few_with f (lanes.Down port) e' few = few_more f (with_lane f (lanes.Down port) e') refl (part_len f.down port e') few
few_with f lanes.Inward e' few = record { up = few.up; down = few.down }
few_with f lanes.Outward e' few = record { up = few.up; down = few.down }

pub in_no_port : {A : Type 0} (r : Result A Refusal) (a : A) → or_no_port r ≡ Ok a → r ≡ Ok a
in_no_port (Ok x) a e = e
in_no_port (Err x) a e = absurd cc

-- a lane that leads to the switch is none that leads away from it
pub leads_away : (name : LaneName) (from to : ℕ) → port_from name ≡ Ok from → name ≢ lane_to to
leads_away (lanes.Up port) from zero e is = cc
leads_away (lanes.Up port) from (suc to) e is = cc
leads_away lanes.Outward from zero e is = cc
leads_away lanes.Outward from (suc to) e is = cc
leads_away lanes.Inward from to e is = absurd cc
leads_away (lanes.Down port) from to e is = absurd cc

-- ---- results

pub of_ok : {B : Type 0} (Q : B → Type 0) (a b : B) → good a ≡ good b → Q a → Q b
of_ok Q a b e q = subst Q (ap (ok_or a) e) q

pub of_and : {A B : Type 0} (Q : B → Type 0) (r : Result A Refusal) (go : A → Result B Refusal) (b : B) → and_then r go ≡ Ok b → ((a : A) → r ≡ Ok a → go a ≡ Ok b → Q b) → Q b
of_and Q (Ok a) go b e all = all a refl e
of_and Q (Err x) go b e all = absurd cc

pub of_map : {A B : Type 0} (Q : B → Type 0) (r : Result A Refusal) (f : A → B) (b : B) → map_ok r f ≡ Ok b → ((a : A) → r ≡ Ok a → Q (f a)) → Q b
of_map Q (Ok a) f b e all = of_ok Q (f a) b e (all a refl)
of_map Q (Err x) f b e all = absurd cc

pub of_some : {A : Type 0} (x : Refusal) (o : Option A) (b : A) → some_or x o ≡ Ok b → o ≡ Some b
of_some x o b e = in_some o b x e

-- an event that may be refused
pub if_ok : {B : Type 0} (Q : B → Type 0) (t : Bool) (a : B) (r : Refusal) (b : B) → (if t then good a else Err r) ≡ good b → Q a → Q b
if_ok Q true a r b e q = of_ok Q a b e q
if_ok Q false a r b e q = absurd cc

pub if_err : {B : Type 0} (Q : B → Type 0) (t : Bool) (a : B) (r : Refusal) (b : B) → (if t then Err r else good a) ≡ good b → Q a → Q b
if_err Q true a r b e q = absurd cc
if_err Q false a r b e q = of_ok Q a b e q
