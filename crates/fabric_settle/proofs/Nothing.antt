-- No hop is left exactly where the fabric is quiet.
use Rattle.std.proofs.Common.{ℕ, ◌≡◌, ◌+◌, ◌<◌, ◌≤◌, ◌↔◌, zero, suc, Bool, true, false, List, [], ◌∷◌, get_or, refl, sym, ap, ◌∙◌, subst, arith, Some, if◌then◌else◌}
use Rattle.std.specs.Prelude.{slice_get}
use Rattle.std.specs.List.{sum_by}
use Rattle.std.proofs.lemmas.List.Sums.{sum_by-cons, get_or-le-sum_by}
use Rattle.std.proofs.lemmas.Option.{slice_get_within, get_or_from_slice_get}
use Rattle.dllp_core.specs.declared.packet.Class.TheVariants.{Posted}
use Rattle.flow_control.specs.Needs.{class_of}
use Rattle.flow_control.specs.Credits.{same}
use Rattle.flow_control.specs.Queue.{Item}
use Rattle.lane_core.specs.Steps.{LaneEndsView}
use Rattle.lane_core.specs.Calls.{content}
use Rattle.fabric_steps.specs.Fabric.{Fabric}
use Rattle.fabric_core.specs.Quiet.{IsQuiet}
use Rattle.fabric_settle.specs.Hops.{hops_of, hops_in, hops_left}

some_hop : (posted other : ℕ) (b : Bool) → 0 < posted → 0 < other → 0 < (if b then posted else other)
some_hop posted other true p o = p
some_hop posted other false p o = o

empty_from : (posted other : ℕ) → 0 < posted → 0 < other → (xs : List Item) → sum_by (hops_of posted other) xs ≡ 0 → xs ≡ []
empty_from posted other p o [] h = refl
empty_from posted other p o (x ∷ xs) h =
    let one : 0 < hops_of posted other x = some_hop posted other (same (class_of x.0.kind) Posted) p o in
    let sum : sum_by (hops_of posted other) (x ∷ xs) ≡ hops_of posted other x + sum_by (hops_of posted other) xs = sum_by-cons (hops_of posted other) x xs in
    absurd (contradiction (hops_of posted other x) (sum_by (hops_of posted other) xs) one (sym sum ∙ h))
  where
    contradiction : (a b : ℕ) → 0 < a → a + b ≡ 0 → ⊥
    contradiction a b k e = omega arith

each_zero : {X : Type 0} (g : X → ℕ) (xs : List X) (i : ℕ) (x : X) → sum_by g xs ≡ 0 → slice_get xs i ≡ Some x → g x ≡ 0
each_zero g xs i x h there =
    below (g x) (sum_by g xs) h (subst (λ y. g y ≤ sum_by g xs) (get_or_from_slice_get xs i x x there) (get_or-le-sum_by g xs i x (slice_get_within xs i x there)))
  where
    below : (a b : ℕ) → b ≡ 0 → a ≤ b → a ≡ 0
    below a b e k = omega arith

all_zero : (posted other : ℕ) (es : List LaneEndsView) → ((i : ℕ) (e : LaneEndsView) → slice_get es i ≡ Some e → content e ≡ []) → sum_by (hops_in posted other) es ≡ 0
all_zero posted other [] h = refl
all_zero posted other (e ∷ es) h =
    sum_by-cons (hops_in posted other) e es ∙ none_and (hops_in posted other e) (sum_by (hops_in posted other) es) (ap (sum_by (hops_of posted other)) (h zero e refl)) (all_zero posted other es (λ i x k. h (suc i) x k))
  where
    none_and : (a b : ℕ) → a ≡ 0 → b ≡ 0 → a + b ≡ 0
    none_and a b p q = omega arith

no_hop : (f : Fabric) → IsQuiet f → hops_left f ≡ 0
no_hop f q =
    four (sum_by (hops_in 2 4) f.up) (hops_in 1 3 f.inward) (hops_in 2 2 f.outward) (sum_by (hops_in 1 1) f.down)
    (all_zero 2 4 f.up q.up) (ap (sum_by (hops_of 1 3)) q.inward) (ap (sum_by (hops_of 2 2)) q.outward) (all_zero 1 1 f.down q.down)
  where
    four : (a b c d : ℕ) → a ≡ 0 → b ≡ 0 → c ≡ 0 → d ≡ 0 → a + (b + (c + d)) ≡ 0
    four a b c d p q r s = omega arith

quiet : (f : Fabric) → hops_left f ≡ 0 → IsQuiet f
quiet f h =
    let z = each (sum_by (hops_in 2 4) f.up) (hops_in 1 3 f.inward) (hops_in 2 2 f.outward) (sum_by (hops_in 1 1) f.down) h in
    record {
      inward = empty_from 1 3 (omega arith) (omega arith) (content f.inward) z.1;
      outward = empty_from 2 2 (omega arith) (omega arith) (content f.outward) z.2;
      up = λ i e there. empty_from 2 4 (omega arith) (omega arith) (content e) (each_zero (hops_in 2 4) f.up i e z.0 there);
      down = λ i e there. empty_from 1 1 (omega arith) (omega arith) (content e) (each_zero (hops_in 1 1) f.down i e z.3 there);
    }
  where
    each : (a b c d : ℕ) → a + (b + (c + d)) ≡ 0 → (a ≡ 0) × (b ≡ 0) × (c ≡ 0) × (d ≡ 0)
    each a b c d e = (omega arith, omega arith, omega arith, omega arith)

pub none : (f : Fabric) → (hops_left f ≡ 0) ↔ IsQuiet f
none f = (quiet f, no_hop f)
