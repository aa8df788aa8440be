-- What is on a wire of a lane, packets or DLLPs.
use Rattle.std.proofs.Common.{◌≡◌, ◌∙◌, ◌≢◌, ◌⊎◌, ℕ, Bool, true, false, List, [], ◌∷◌, ◌++◌, drop, map, refl, sym, ap, subst, inl, inr, Option, Some, None}
use Rattle.std.specs.Prelude.{◌==◌, if◌then◌else◌, slice_get}
use Rattle.std.proofs.lemmas.List.{append-nil}
use Rattle.std.proofs.lemmas.Bool.Decides.{eqb_tells}
use Rattle.dllp_core.specs.declared.packet.Dllp.TheVariants as dllps
use Rattle.lane_core.specs.declared.packet.DllpSeen.{DllpSeen}
use Rattle.lane_core.specs.declared.packet.DllpSeen.TheVariants as dllps_seen
use Rattle.fabric_steps.specs.declared.event.LaneName.{LaneName}
use Rattle.chart_links.specs.CourseView.{CourseView, without_back, told}
use Rattle.chart_links.specs.Lanes.{place_of, changed_found, changed, asked_found}
use Rattle.chart_arrows.proofs.Lists.{map_more}
use Rattle.chart_arrows.proofs.Courses.{becomes}

-- what is on the wire of the course at a place
abbrev pub On : {X : Type 0} → (CourseView → List X) → ℕ → List CourseView → List X
On wire k cs = asked_found wire [] (slice_get cs k)

abbrev Told : ℕ → ℕ → Type 0
Told p k = (((p == k) ≡ true) × (p ≡ k)) ⊎ (((p == k) ≡ false) × (p ≢ k))

abbrev pub if_here : {X : Type 0} → Bool → List X → List X
if_here here xs = if here then xs else []

-- what was on the wire, and what was sent, is what arrived, and what is there now
moves_by : {X : Type 0} (wire : CourseView → List X) (g : CourseView → CourseView) (cs : List CourseView) (lane : LaneName) (k : ℕ) (c : CourseView) (s b : List X) → slice_get cs (place_of lane) ≡ Some c
    → wire c ++ s ≡ b ++ wire (g c) → Told (place_of lane) k → On wire k cs ++ if_here (place_of lane == k) s ≡ if_here (place_of lane == k) b ++ On wire k (changed g cs lane)
moves_by {X} wire g cs lane k c s b is goes (inl w) =
    let later : List CourseView = changed g cs lane in
    ap (λ (t : Bool). On wire k cs ++ if_here t s) w.0
    ∙ subst (λ (j : ℕ). On wire j cs ++ s ≡ b ++ On wire j later) w.1
    (ap (λ (o : Option CourseView). asked_found wire [] o ++ s) is ∙ goes ∙ sym (ap (λ (o : Option CourseView). b ++ asked_found wire [] o) ((becomes cs lane g).here c is)))
    ∙ sym (ap (λ (t : Bool). if_here t b ++ On wire k later) w.0)
moves_by {X} wire g cs lane k c s b is goes (inr w) =
    let later : List CourseView = changed g cs lane in
    ap (λ (t : Bool). On wire k cs ++ if_here t s) w.0 ∙ append-nil (On wire k cs)
    ∙ sym (ap (λ (o : Option CourseView). asked_found wire [] o) ((becomes cs lane g).others k w.1))
    ∙ sym (ap (λ (t : Bool). if_here t b ++ On wire k later) w.0)

moves : {X : Type 0} (wire : CourseView → List X) (g : CourseView → CourseView) (cs : List CourseView) (lane : LaneName) (k : ℕ) (c : CourseView) (s b : List X) → slice_get cs (place_of lane) ≡ Some c
    → wire c ++ s ≡ b ++ wire (g c) → On wire k cs ++ if_here (place_of lane == k) s ≡ if_here (place_of lane == k) b ++ On wire k (changed g cs lane)
moves wire g cs lane k c s b is goes = moves_by wire g cs lane k c s b is goes (eqb_tells (place_of lane) k)

none_here : {X : Type 0} (here : Bool) → if_here {X = X} here [] ≡ []
none_here true = refl
none_here false = refl

pub sends : {X : Type 0} (wire : CourseView → List X) (g : CourseView → CourseView) (cs : List CourseView) (lane : LaneName) (k : ℕ) (c : CourseView) (x : X) → slice_get cs (place_of lane) ≡ Some c
    → wire c ++ x ∷ [] ≡ wire (g c) → On wire k cs ++ if_here (place_of lane == k) (x ∷ []) ≡ On wire k (changed g cs lane)
sends {X} wire g cs lane k c x is goes =
    moves wire g cs lane k c (x ∷ []) [] is goes ∙ ap (λ (t : List X). t ++ On wire k (changed g cs lane)) (none_here (place_of lane == k))

pub arrives : {X : Type 0} (wire : CourseView → List X) (g : CourseView → CourseView) (cs : List CourseView) (lane : LaneName) (k : ℕ) (c : CourseView) (y : X) → slice_get cs (place_of lane) ≡ Some c
    → wire c ++ [] ≡ y ∷ wire (g c) → On wire k cs ++ [] ≡ if_here (place_of lane == k) (y ∷ []) ++ On wire k (changed g cs lane)
arrives {X} wire g cs lane k c y is goes =
    ap (λ (t : List X). On wire k cs ++ t) (sym (none_here (place_of lane == k))) ∙ moves wire g cs lane k c [] (y ∷ []) is goes

-- ---- a change that leaves a wire

same_here : {X : Type 0} (wire : CourseView → List X) (g : CourseView → CourseView) → ((c : CourseView) → wire (g c) ≡ wire c) → (cs : List CourseView) (p : ℕ) (o : Option CourseView) → slice_get cs p ≡ o
    → (o ≡ None → slice_get (changed_found g cs p o) p ≡ None) → ((c : CourseView) → o ≡ Some c → slice_get (changed_found g cs p o) p ≡ Some (g c))
    → On wire p (changed_found g cs p o) ≡ On wire p cs
same_here wire g keep cs p None is none some = ap (λ (o : Option CourseView). asked_found wire [] o) (none refl) ∙ sym (ap (λ (o : Option CourseView). asked_found wire [] o) is)
same_here wire g keep cs p (Some c) is none some =
    ap (λ (o : Option CourseView). asked_found wire [] o) (some c refl) ∙ keep c ∙ sym (ap (λ (o : Option CourseView). asked_found wire [] o) is)

still_none : (g : CourseView → CourseView) (cs : List CourseView) (p : ℕ) (o : Option CourseView) → slice_get cs p ≡ o → o ≡ None → slice_get (changed_found g cs p o) p ≡ None
still_none g cs p None is none = is
still_none g cs p (Some c) is none = absurd cc

keeps_by : {X : Type 0} (wire : CourseView → List X) (g : CourseView → CourseView) → ((c : CourseView) → wire (g c) ≡ wire c) → (cs : List CourseView) (lane : LaneName) (k : ℕ) → Told (place_of lane) k
    → On wire k (changed g cs lane) ≡ On wire k cs
keeps_by wire g keep cs lane k (inl w) =
    subst (λ (j : ℕ). On wire j (changed g cs lane) ≡ On wire j cs) w.1
    (same_here wire g keep cs (place_of lane) (slice_get cs (place_of lane)) refl (λ none. still_none g cs (place_of lane) (slice_get cs (place_of lane)) refl none) (λ c is. (becomes cs lane g).here c is))
keeps_by wire g keep cs lane k (inr w) = ap (λ (o : Option CourseView). asked_found wire [] o) ((becomes cs lane g).others k w.1)

pub keeps : {X : Type 0} (wire : CourseView → List X) (g : CourseView → CourseView) → ((c : CourseView) → wire (g c) ≡ wire c) → (cs : List CourseView) (lane : LaneName) (k : ℕ)
    → On wire k cs ++ [] ≡ On wire k (changed g cs lane)
keeps wire g keep cs lane k = append-nil (On wire k cs) ∙ sym (keeps_by wire g keep cs lane k (eqb_tells (place_of lane) k))

pub keeps_twice : {X : Type 0} (wire : CourseView → List X) (g h : CourseView → CourseView) → ((c : CourseView) → wire (g c) ≡ wire c) → ((c : CourseView) → wire (h c) ≡ wire c)
    → (cs : List CourseView) (lane other : LaneName) (k : ℕ) → On wire k cs ++ [] ≡ On wire k (changed h (changed g cs lane) other)
keeps_twice wire g h keep kept cs lane other k =
    append-nil (On wire k cs) ∙ sym (keeps_by wire h kept (changed g cs lane) other k (eqb_tells (place_of other) k) ∙ keeps_by wire g keep cs lane k (eqb_tells (place_of lane) k))

-- ---- the two ends of a wire

abbrev pub shown : {X : Type 0} → List X → List (Option X)
shown xs = map (λ (x : _). Some x) xs

pub leaves : {X : Type 0} (xs : List X) (x : X) → slice_get xs 0 ≡ Some x → shown xs ++ [] ≡ slice_get xs 0 ∷ shown (drop 1 xs)
leaves [] x is = absurd cc
leaves (y ∷ xs) x is = append-nil (shown (y ∷ xs))

pub joins : {X : Type 0} (xs : List X) (x : X) → shown xs ++ Some x ∷ [] ≡ shown (xs ++ x ∷ [])
joins {X} xs x = sym (map_more (λ (y : X). Some y) xs x)

pub told_back : (what : DllpSeen) (c : CourseView) → (told what (without_back c)).back ≡ drop 1 c.back
told_back (dllps_seen.Took (dllps.Ack n)) c = refl
told_back (dllps_seen.Took (dllps.Nak n)) c = refl
told_back (dllps_seen.Took (dllps.Update class headers units)) c = refl
told_back dllps_seen.Gone c = refl

pub told_wire : (what : DllpSeen) (c : CourseView) → (told what (without_back c)).wire ≡ c.wire
told_wire (dllps_seen.Took (dllps.Ack n)) c = refl
told_wire (dllps_seen.Took (dllps.Nak n)) c = refl
told_wire (dllps_seen.Took (dllps.Update class headers units)) c = refl
told_wire dllps_seen.Gone c = refl
