-- What seats recorded is what the acts of the hall that they closed have of their requesters.
use Rattle.std.proofs.Common.{◌≡◌, ◌≢◌, ℕ, zero, suc, ◌+◌, ◌<◌, ◌≤◌, ◌⊎◌, Bool, true, false, cond, eqb, ne_eqb, eq-eqb, List, [], ◌∷◌, ◌++◌, length, get_or, refl, sym, ap, ◌∙◌, subst, inl, inr, ⊎_elim, arith}
use native.Mathlib.Decide.{ℕ_discrete}
use Rattle.std.specs.Prelude.{Some, None, slice_get}
use Rattle.std.specs.List.{cons_option}
use Rattle.std.proofs.lemmas.List.{get_or_past, nil_from_length}
use Rattle.tlp_core.specs.Ops.{Op}
use Rattle.history_words.specs.Records.{Record}
use Rattle.history_words.specs.declared.record.RecordOf.TheVariants as records
use Rattle.history_words.specs.Lookup.{requester_of}
use Rattle.history_words.specs.Trace.{submissions}
use Rattle.fabric_steps.specs.Fabric.{Fabric, whole_of}
use Rattle.fabric_steps.specs.Whole.{RequesterView, unused}
use Rattle.fabric_steps.specs.Trace.{Belongs}
use Rattle.fabric_steps.specs.Lists.{Each}
use Rattle.hall_laws.specs.Waiting.{records_by}
use Rattle.hall_laws.specs.Rule.{HasConfig}
use Rattle.hall_core.specs.Views.{SeatView, HallView, RanBy}
use Rattle.worker_report.specs.OneRun.{IsOfOneRun, AreBelow, AreOfSeats}
use Rattle.worker_report.proofs.Reordered.{take_get}

below_or : (i n : ℕ) → (i < n) ⊎ (n ≤ i)
below_or i zero = inr (omega arith)
below_or zero (suc n) = inl (omega arith)
below_or (suc i) (suc n) = ⊎_elim (λ (h : i < n). inl (omega arith)) (λ (h : n ≤ i). inr (omega arith)) (below_or i n)

-- ---- nobody's records

-- no record is of the requester
none_by : (i : ℕ) (rs : List Record) → ((a : ℕ) (r : Record) → slice_get rs a ≡ Some r → i ≢ requester_of r) → records_by i rs ≡ []
none_by i [] h = refl
none_by i (r ∷ rs) h = ap (λ b. cond b (r ∷ records_by i rs) (records_by i rs)) (ne_eqb i (requester_of r) (h 0 r refl)) ∙ none_by i rs (λ a s at. h (suc a) s at)

submitted_first : (i k n : ℕ) (op : Op) (rs : List Record) → submissions (records.Sub i k op n ∷ rs) i ≡ [] → ⊥
submitted_first i k n op rs none =
    let count : suc (length (submissions rs i)) ≡ 0 = ap length (sym (ap (λ b. cons_option (cond b (Some op) None) (submissions rs i)) (eq-eqb i i refl)) ∙ none) in absurd (omega arith)

submitted_rest : (b : Bool) (op : Op) (l : List Op) → cons_option (cond b (Some op) None) l ≡ [] → l ≡ []
submitted_rest true op l e = let count : suc (length l) ≡ 0 = ap length e in absurd (omega arith)
submitted_rest false op l e = e

-- a submission is among its requester's
submitted : (i k n a : ℕ) (op : Op) (rs : List Record) → slice_get rs a ≡ Some (records.Sub i k op n) → submissions rs i ≡ [] → ⊥
submitted i k n a op [] at none = absurd cc
submitted i k n zero op (r ∷ rs) at none = let same : r ≡ records.Sub i k op n = cc in submitted_first i k n op rs (subst (λ (x : Record). submissions (x ∷ rs) i ≡ []) same none)
submitted i k n (suc a) op (records.Sub j m o l ∷ rs) at none = submitted i k n a op rs at (submitted_rest (eqb i j) o (submissions rs i) none)
submitted i k n (suc a) op (records.Ans j m reply l ∷ rs) at none = submitted i k n a op rs at none

-- a requester that the fabric hasn't has no record
nobodys : (f : Fabric) (told : List Record) (i : ℕ) → Belongs (whole_of f) told → get_or (unused ∷ f.requesters) i unused ≡ unused → records_by i told ≡ []
nobodys f told i b is = none_by i told (λ a r at own. of_nobody a r at own)
  where
    nothing : submissions told i ≡ []
    nothing = nil_from_length (submissions told i) ((b.made i).spent ∙ ap (λ (q : RequesterView). q.next) is)

    of_nobody : (a : ℕ) (r : Record) → slice_get told a ≡ Some r → i ≡ requester_of r → ⊥
    of_nobody a (records.Sub j k op n) at own = submitted j k n a op told at (subst (λ (x : ℕ). submissions told x ≡ []) own nothing)
    of_nobody a (records.Ans j k reply n) at own =
        let x = b.linear a j k n reply at in
        let h = take_get told x.place a (records.Sub j k x.op x.since) x.asked in
        submitted j k x.since x.place x.op told h.1 (subst (λ (y : ℕ). submissions told y ≡ []) own nothing)

outside : (j n : ℕ) (rs : List Record) → AreBelow n rs → (j ≡ 0) ⊎ (n ≤ j) → records_by j rs ≡ []
outside j n [] b o = refl
outside j n (r ∷ rs) b o =
    let above : 0 < requester_of r = b.0.0 in
    let below : requester_of r < n = b.0.1 in
    ap (λ t. cond t (r ∷ records_by j rs) (records_by j rs)) (ne_eqb j (requester_of r) (λ e. ⊎_elim (λ (z : j ≡ 0). absurd (omega arith)) (λ (z : n ≤ j). absurd (omega arith)) o)) ∙ outside j n rs b.1 o

-- ---- the seats' records

seats_below : (rs : List Record) (i : ℕ) (ss : List SeatView) → AreOfSeats rs i ss → AreBelow (i + length ss) rs
seats_below rs i [] h = subst (λ n. AreBelow n rs) (omega arith) h
seats_below rs i (s ∷ ss) h = subst (λ n. AreBelow n rs) (omega arith) (seats_below rs (i + 1) ss h.2)

seats_own : (rs told : List Record) (i : ℕ) (ss : List SeatView) → AreOfSeats rs i ss → Each (λ (s : SeatView). s.knows.records ≡ records_by (suc s.knows.number) told) ss → (j : ℕ) → i ≤ j → j < i + length ss
    → records_by j rs ≡ records_by j told
seats_own rs told i [] h e j low high = absurd (omega arith)
seats_own rs told i (s ∷ ss) h e j low high = elim (ℕ_discrete j i) as (λ _. records_by j rs ≡ records_by j told) [
  | yes same ↦ subst (λ (x : ℕ). records_by x rs ≡ records_by x told) (sym same) (h.1 ∙ e.0 ∙ ap (λ x. records_by x told) h.0)
  | no other ↦ seats_own rs told (i + 1) ss h.2 e.1 j (omega arith) (omega arith)
]

each_front : {X : Type 0} (P : X → Type 0) (xs ys : List X) → Each P (xs ++ ys) → Each P xs
each_front P [] ys h = tt
each_front P (x ∷ xs) ys h = (h.0, each_front P xs ys h.1)

pub one_run : (h : HallView) (requesters work : List SeatView) (f : Fabric) (rs : List Record) → RanBy h (requesters ++ work) f → HasConfig f h.config → length requesters ≡ h.config.requesters → AreOfSeats rs 1 requesters
    → IsOfOneRun h.opened rs f
one_run h requesters work f rs ran config count of = record {
  acts = ran.acts;
  told = ran.told;
  tells = ran.tells;
  sound = ran.sound;
  belongs = ran.belongs;
  own = λ i. own i;
}
  where
    told : List Record
    told = ran.told

    many : length f.requesters ≡ length requesters
    many = config.requesters ∙ sym count

    neither : (i : ℕ) → (i ≡ 0) ⊎ (1 + length requesters ≤ i) → get_or (unused ∷ f.requesters) i unused ≡ unused → records_by i rs ≡ records_by i told
    neither i out is = outside i (1 + length requesters) rs (seats_below rs 1 requesters of) out ∙ sym (nobodys f told i ran.belongs is)

    own : (i : ℕ) → records_by i rs ≡ records_by i told
    own zero = neither 0 (inl refl) refl
    own (suc i) = ⊎_elim
        (λ (inside : i < length requesters). seats_own rs told 1 requesters of (each_front (λ (s : SeatView). s.knows.records ≡ records_by (suc s.knows.number) told) requesters work ran.records) (suc i) (omega arith) (omega arith))
        (λ (past : length requesters ≤ i). let same = many in neither (suc i) (inr (omega arith)) (get_or_past f.requesters i unused (omega arith))) (below_or i (length requesters))
