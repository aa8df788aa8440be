-- The order by counts, and what is carried.
use Rattle.std.proofs.Common.{⊎_elim, ◌≡◌, ◌+◌, ◌<◌, ◌≤◌, ◌⊎◌, ℕ, zero, suc, Bool, true, false, cond, List, [], ◌∷◌, ◌++◌, length, take, Some, refl, sym, ap, ◌∙◌, subst, inl, inr, arith, append_assoc, length-append}
use Rattle.std.specs.Prelude.{slice_get, option_map, filter, ◌==◌, ◌||◌}
use Rattle.std.specs.List.{list_any}
use Rattle.std.proofs.lemmas.Bool.{cases_Bool, eq-eqb}
use Rattle.std.proofs.lemmas.Option.{same_Some}
use Rattle.std.proofs.lemmas.Map.Keys.{any_passes_from_place}
use native.Mathlib.Decide.{dec_lt}
use mathlib.Core.Logic.{dite}
use Rattle.tlp_core.specs.Ops.{Op}
use Rattle.seq_memory.specs.Entries.{Entry}
use Rattle.history_words.specs.Records.{Record}
use Rattle.history_words.specs.declared.record.RecordOf.TheVariants as records
use Rattle.history_words.specs.Claim.{Claim}
use Rattle.history_words.specs.Clocks.{IsClocked, ActsAt}
use Rattle.history_words.specs.Lookup.{requester_of}
use Rattle.history_words.specs.Trace.{submissions, is_request, stands, IsLegal, Explains}
use Rattle.history_words.specs.Flaws.{first_place, place_of}
use Rattle.fabric_steps.specs.Lists.{Each}
use Rattle.hall_laws.specs.Waiting.{records_by}
use Rattle.hall_laws.specs.Rule.{Begins}
use Rattle.hall_laws.specs.Tells.{Has}
use Rattle.hall_core.specs.Views.{SeatView}
use Rattle.hall_core.specs.Linearizable.{KeepsTheOrderOfCounts}

-- ---- where a request stands

hit : (b c : Bool) → b ≡ true → (b || c) ≡ false → ⊥
hit b c e f = cc

-- the first that passes is there, if none before it passes
first_is : {X : Type 0} → (t : X → Bool) (xs : List X) (p : ℕ) (x : X) → slice_get xs p ≡ Some x → t x ≡ true → list_any t (take p xs) ≡ false → first_place t xs ≡ Some p
first_is t [] p x at e none = cc
first_is t (y ∷ ys) zero x at e none = ap (λ v. cond v (Some 0) (option_map (λ n. n + 1) (first_place t ys))) (ap t (same_Some y x at) ∙ e)
first_is t (y ∷ ys) (suc p) x at e none =
    elim (cases_Bool (t y)) [
      | inl passes ↦ absurd (hit (t y) (list_any t (take p ys)) passes none)
      | inr miss ↦
          let rest = first_is t ys p x at e (sym (ap (λ v. v || list_any t (take p ys)) miss) ∙ none) in
          let step : p + 1 ≡ suc p = omega arith in
          ap (λ v. cond v (Some 0) (option_map (λ n. n + 1) (first_place t ys))) miss ∙ ap (option_map (λ n. n + 1)) rest ∙ ap Some step
    ]

its_own : (i k : ℕ) (op : Op) → is_request i k (record { requester = i; number = k; op = op }) ≡ true
its_own i k op = rw (eq-eqb i i refl, eq-eqb k k refl) refl

-- in a legal history a request stands first where it stands
placed : (s : ℕ → List Op) (h : List Entry) (p i k : ℕ) (op : Op) → IsLegal s h → slice_get h p ≡ Some (record { requester = i; number = k; op = op }) → place_of h i k ≡ Some p
placed s h p i k op legal at = first_is (is_request i k) h p (record { requester = i; number = k; op = op }) at (its_own i k op) (legal p (record { requester = i; number = k; op = op }) at).once

-- what is one of them has its place
found : {X : Type 0} → (x : X) (ys : List X) → Has x ys → (a : ℕ) × (slice_get ys a ≡ Some x)
found x [] h = absurd h
found x (y ∷ ys) h = ⊎_elim (λ e. (0, ap Some e)) (λ later. let r = found x ys later in (suc r.0, r.1)) h

pub by_counts : (x : Claim) → Explains x → IsClocked x → KeepsTheOrderOfCounts x.memory.entries x.records
by_counts x good clocked = λ i k j m until since p q reply op one_has two_has by_then one two.
    let rs = x.records in
    let h = x.memory.entries in
    let answered = found (records.Ans i k reply until) rs one_has in
    let submitted = found (records.Sub j m op since) rs two_has in
    let e = good.linear answered.0 i k until reply answered.1 in
    let there = placed (submissions rs) h e.point i k e.op good.legal e.acted in
    let here = placed (submissions rs) h p i k one.0 good.legal one.1 in
    let same : e.point ≡ p = same_Some e.point p (sym there ∙ here) in
    let before : e.point < until = e.before_answer in
    let later : since ≤ q = clocked.after_submission q submitted.0 since (record { requester = j; number = m; op = two.0 }) op two.1 submitted.1 in
    omega (arith, same, before, by_then, later)

-- ---- what seats were told

of_each : {X : Type 0} → (P : X → Type 0) (x : X) (xs : List X) → Each P xs → Has x xs → P x
of_each P x [] e h = absurd h
of_each P x (y ∷ ys) e h = ⊎_elim (λ (same : y ≡ x). subst P same e.0) (λ later. of_each P x ys e.1 later) h

passed : {X : Type 0} → (x y : X) (ys zs : List X) (b : Bool) → (Has x zs → Has x ys) → Has x (cond b (y ∷ zs) zs) → (y ≡ x) ⊎ Has x ys
passed x y ys zs true on h = ⊎_elim inl (λ later. inr (on later)) h
passed x y ys zs false on h = inr (on h)

unfiltered : {X : Type 0} → (t : X → Bool) (x : X) (ys : List X) → Has x (filter t ys) → Has x ys
unfiltered t x [] h = h
unfiltered t x (y ∷ ys) h = passed x y ys (filter t ys) (t y) (unfiltered t x ys) h

of_two : {X : Type 0} → (x : X) (xs ys : List X) → Has x (xs ++ ys) → Has x xs ⊎ Has x ys
of_two x [] ys h = inr h
of_two x (y ∷ xs) ys h = ⊎_elim (λ same. inl (inl same)) (λ later. ⊎_elim (λ here. inl (inr here)) inr (of_two x xs ys later)) h

-- what is among the records of two seats was told
pub told_one : (told : List Record) (seats : List SeatView) (a b : SeatView) (x : Record) → Each (λ (s : SeatView). s.knows.records ≡ records_by (suc s.knows.number) told) seats → Has a seats → Has b seats
    → Has x (a.knows.records ++ b.knows.records) → Has x told
told_one told seats a b x each one two h =
    let of_seat : (s : SeatView) → Has s seats → Has x s.knows.records → Has x told = λ s there among.
    let own = of_each (λ (s : SeatView). s.knows.records ≡ records_by (suc s.knows.number) told) s seats each there in
    unfiltered (λ r. suc s.knows.number == requester_of r) x told (subst (Has x) own among) in
    ⊎_elim (of_seat a one) (of_seat b two) (of_two x a.knows.records b.knows.records h)

-- ---- what is carried

pub begins_then : {X : Type 0} → (xs ys zs : List X) → Begins xs ys → Begins ys zs → Begins xs zs
begins_then xs ys zs b c = (b.0 ++ c.0, c.1 ∙ ap (λ l. l ++ c.0) b.1 ∙ append_assoc xs b.0 c.0)

pub begins_long : {X : Type 0} → (xs ys : List X) → Begins xs ys → length xs ≤ length ys
begins_long xs ys b = let long : length ys ≡ length xs + length b.0 = ap length b.1 ∙ length-append xs b.0 in omega (arith, long)

at_front : {X : Type 0} → (xs zs : List X) (q : ℕ) (x : X) → q < length xs → slice_get (xs ++ zs) q ≡ Some x → slice_get xs q ≡ Some x
at_front [] zs q x small at = absurd (omega arith)
at_front (y ∷ xs) zs zero x small at = at
at_front (y ∷ xs) zs (suc q) x small at = at_front xs zs q x (omega arith) at

-- what doesn't stand in a prefix stands behind it
pub stands_behind : (xs h : List Entry) (i k q : ℕ) → Begins xs h → stands xs i k ≡ false → ActsAt h i k q → length xs ≤ q
stands_behind xs h i k q b none acts =
    dite (dec_lt q (length xs))
    (λ (small : q < length xs).
    let here = at_front xs b.0 q (record { requester = i; number = k; op = acts.0 }) small (sym (ap (λ l. slice_get l q) b.1) ∙ acts.1) in
    let yes : stands xs i k ≡ true = any_passes_from_place (is_request i k) xs q (record { requester = i; number = k; op = acts.0 }) here (its_own i k acts.0) in
    absurd (cc))
    (λ big. omega (arith, big))
