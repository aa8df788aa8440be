-- What a trace has of one requester, as it grows.
use Rattle.std.proofs.Common.{◌≡◌, ◌≢◌, ◌==◌, ℕ, zero, suc, Bool, true, false, cond, List, [], ◌∷◌, ◌++◌, refl, sym, ap, ◌∙◌, inl, inr, ◌⊎◌, Some, eq-eqb}
use Rattle.std.specs.Prelude.{slice_get, if◌then◌else◌, not}
use Rattle.std.proofs.lemmas.List.{append-nil}
use Rattle.std.proofs.lemmas.List.Elements.{filter_map-append, filter-append}
use Rattle.std.proofs.lemmas.Bool.{ne_eqb}
use Rattle.tlp_core.specs.Ops.{Op}
use Rattle.tlp_core.specs.Operation.{is_posted}
use Rattle.seq_memory.specs.Entries.{Reply}
use Rattle.history_words.specs.Records.{Record}
use Rattle.history_words.specs.declared.record.RecordOf.TheVariants.{Sub, Ans}
use Rattle.history_words.specs.Trace.{submission, submissions}
use Rattle.history_words.specs.Lookup.{requester_of}
use Rattle.fabric_steps.specs.Lists.{Each}
use Rattle.hall_laws.specs.Waiting.{requester_in, without, after_record, waiting_after, waiting, records_by}

pub waiting_append : (i : ℕ) (ps : List (ℕ × ℕ)) (rs ss : List Record) → waiting_after i ps (rs ++ ss) ≡ waiting_after i (waiting_after i ps rs) ss
waiting_append i ps [] ss = refl
waiting_append i ps (r ∷ rs) ss = waiting_append i (after_record i ps r) rs ss

-- records of another requester

pub waiting_other : (i j : ℕ) (ps : List (ℕ × ℕ)) (rs : List Record) → j ≢ i → Each (λ (r : Record). requester_in r ≡ j) rs → waiting_after i ps rs ≡ ps
waiting_other i j ps [] ne e = refl
waiting_other i j ps (Sub k n op m ∷ rs) ne e =
    let other : k ≢ i = (λ h. ne (sym e.0 ∙ h)) in
    let here : after_record i ps (Sub k n op m) ≡ ps = rw (ne_eqb i k (λ h. other (sym h))) refl in
    ap (λ (l : List (ℕ × ℕ)). waiting_after i l rs) here ∙ waiting_other i j ps rs ne e.1
waiting_other i j ps (Ans k n x m ∷ rs) ne e =
    let other : k ≢ i = (λ h. ne (sym e.0 ∙ h)) in
    let here : after_record i ps (Ans k n x m) ≡ ps = rw (ne_eqb i k (λ h. other (sym h))) refl in
    ap (λ (l : List (ℕ × ℕ)). waiting_after i l rs) here ∙ waiting_other i j ps rs ne e.1

none_made : (i j : ℕ) (rs : List Record) → j ≢ i → Each (λ (r : Record). requester_in r ≡ j) rs → submissions rs i ≡ []
none_made i j [] ne e = refl
none_made i j (Sub k n op m ∷ rs) ne e =
    let other : k ≢ i = (λ h. ne (sym e.0 ∙ h)) in
    let rest : submissions rs i ≡ [] = none_made i j rs ne e.1 in
    rw (ne_eqb i k (λ h. other (sym h))) rest
none_made i j (Ans k n x m ∷ rs) ne e = none_made i j rs ne e.1

pub made_append_other : (i j : ℕ) (rs ss : List Record) → j ≢ i → Each (λ (r : Record). requester_in r ≡ j) ss → submissions (rs ++ ss) i ≡ submissions rs i
made_append_other i j rs ss ne e = filter_map-append (submission i) rs ss ∙ (ap (λ (l : List Op). submissions rs i ++ l) (none_made i j ss ne e) ∙ append-nil (submissions rs i))

pub waiting_append_other : (i j : ℕ) (rs ss : List Record) → j ≢ i → Each (λ (r : Record). requester_in r ≡ j) ss → waiting (rs ++ ss) i ≡ waiting rs i
waiting_append_other i j rs ss ne e = waiting_append i [] rs ss ∙ waiting_other i j (waiting rs i) ss ne e

none_by : (i j : ℕ) (rs : List Record) → j ≢ i → Each (λ (r : Record). requester_in r ≡ j) rs → records_by i rs ≡ []
none_by i j [] ne e = refl
none_by i j (Sub k n op m ∷ rs) ne e =
    let other : k ≢ i = (λ h. ne (sym e.0 ∙ h)) in
    let rest : records_by i rs ≡ [] = none_by i j rs ne e.1 in
    rw (ne_eqb i k (λ h. other (sym h))) rest
none_by i j (Ans k n x m ∷ rs) ne e =
    let other : k ≢ i = (λ h. ne (sym e.0 ∙ h)) in
    let rest : records_by i rs ≡ [] = none_by i j rs ne e.1 in
    rw (ne_eqb i k (λ h. other (sym h))) rest

by_append : (i : ℕ) (rs ss : List Record) → records_by i (rs ++ ss) ≡ records_by i rs ++ records_by i ss
by_append i rs ss = filter-append (λ r. i == requester_of r) rs ss

pub by_append_other : (i j : ℕ) (rs ss : List Record) → j ≢ i → Each (λ (r : Record). requester_in r ≡ j) ss → records_by i (rs ++ ss) ≡ records_by i rs
by_append_other i j rs ss ne e = by_append i rs ss ∙ (ap (λ (l : List Record). records_by i rs ++ l) (none_by i j ss ne e) ∙ append-nil (records_by i rs))

-- records of its own

pub by_append_own : (i : ℕ) (r : Record) (rs : List Record) → i ≡ requester_of r → records_by i (rs ++ r ∷ []) ≡ records_by i rs ++ r ∷ []
by_append_own i r rs own = by_append i rs (r ∷ []) ∙ ap (λ (b : Bool). records_by i rs ++ cond b (r ∷ []) []) (eq-eqb i (requester_of r) own)

by_posted : (b : Bool) (ps qs : List (ℕ × ℕ)) → (if not b then qs else ps) ≡ (if b then ps else qs)
by_posted true ps qs = refl
by_posted false ps qs = refl

pub waiting_submitted : (i k n : ℕ) (op : Op) (rs : List Record) → waiting (rs ++ Sub i k op n ∷ []) i ≡ (if is_posted op then waiting rs i else waiting rs i ++ (k, n) ∷ [])
waiting_submitted i k n op rs =
    let here : after_record i (waiting rs i) (Sub i k op n) ≡ (if is_posted op then waiting rs i else waiting rs i ++ (k, n) ∷ []) = rw (eq-eqb i i refl) (by_posted (is_posted op) (waiting rs i) (waiting rs i ++ (k, n) ∷ [])) in
    waiting_append i [] rs (Sub i k op n ∷ []) ∙ here

pub waiting_answered : (i k n : ℕ) (x : Reply) (rs : List Record) → waiting (rs ++ Ans i k x n ∷ []) i ≡ without k (waiting rs i)
waiting_answered i k n x rs =
    let here : after_record i (waiting rs i) (Ans i k x n) ≡ without k (waiting rs i) = rw (eq-eqb i i refl) refl in
    waiting_append i [] rs (Ans i k x n ∷ []) ∙ here

pub get_append : {X : Type 0} (xs ys : List X) (a : ℕ) (x : X) → slice_get (xs ++ ys) a ≡ Some x → (slice_get xs a ≡ Some x) ⊎ ((b : ℕ) × (slice_get ys b ≡ Some x))
get_append [] ys a x e = inr (a, e)
get_append (z ∷ xs) ys zero x e = inl e
get_append (z ∷ xs) ys (suc a) x e = get_append xs ys a x e
