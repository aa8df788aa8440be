-- The form of records as they grow.
use Rattle.std.proofs.Common.{◌≡◌, ◌≢◌, ℕ, zero, suc, ◌+◌, ◌<◌, ◌≤◌, ◌==◌, ◌&&◌, ◌||◌, Bool, true, false, List, [], ◌∷◌, ◌++◌, length, take, get_or, Option, Some, None, refl, sym, ap, ◌∙◌, subst, arith, inl, inr, ◌⊎◌, ⊎_elim, eq-eqb}
use Rattle.std.specs.Prelude.{slice_get, slice_set}
use Rattle.std.specs.List.{list_any}
use Rattle.std.proofs.lemmas.List.{append-nil, take_all, take-append-le, get_or-set_same, get_or-set_other, get_or_past, length-append, length-set}
use Rattle.std.proofs.lemmas.List.Elements.{filter_map-append}
use Rattle.std.proofs.lemmas.List.Folds.{list_any-append}
use Rattle.std.proofs.lemmas.Bool.Decides.{nat_tests}
use Rattle.std.proofs.lemmas.Bool.{cases_eq, ne_eqb}
use Rattle.tlp_core.specs.Ops.{Op}
use Rattle.tlp_core.specs.Operation.{is_posted}
use Rattle.seq_memory.specs.Entries.{Reply}
use Rattle.history_words.specs.Records.{Record}
use Rattle.history_words.specs.declared.record.RecordOf.TheVariants as records
use Rattle.history_words.specs.Trace.{submission, submissions, answers_to, IsNumbered}
use Rattle.monitor_ports.specs.Runs.{IsAsked, IsWellFormed}

-- ---- lists

below_or_not : (a b : ℕ) → (a < b) ⊎ (b ≤ a)
below_or_not a b = grind arith

pub get_push : {X : Type 0} (xs : List X) (y : X) (n : ℕ) (x : X) → slice_get (xs ++ y ∷ []) n ≡ Some x → ((n < length xs) × (slice_get xs n ≡ Some x)) ⊎ ((n ≡ length xs) × (y ≡ x))
get_push [] y zero x e = inr (refl, cc)
get_push [] y (suc n) x e = absurd (cc)
get_push (z ∷ xs) y zero x e = inl (omega arith, e)
get_push (z ∷ xs) y (suc n) x e = ⊎_elim
    (λ (h : (n < length xs) × (slice_get xs n ≡ Some x)). let l : n < length xs = h.0 in inl (omega arith, h.1))
    (λ (h : (n ≡ length xs) × (y ≡ x)). inr (ap suc h.0, h.1))
    (get_push xs y n x e)

get_longer : {X : Type 0} (xs ys : List X) (n : ℕ) (x : X) → slice_get xs n ≡ Some x → slice_get (xs ++ ys) n ≡ Some x
get_longer [] ys n x e = absurd (cc)
get_longer (z ∷ xs) ys zero x e = e
get_longer (z ∷ xs) ys (suc n) x e = get_longer xs ys n x e

get_last : {X : Type 0} (xs : List X) (y : X) → slice_get (xs ++ y ∷ []) (length xs) ≡ Some y
get_last [] y = refl
get_last (z ∷ xs) y = get_last xs y

pub none_more : {X : Type 0} (p : X → Bool) (xs : List X) (y : X) → list_any p xs ≡ false → p y ≡ false → list_any p (xs ++ y ∷ []) ≡ false
none_more p xs y e f = list_any-append p xs (y ∷ []) ∙ rw (e, f) refl

-- what is found under a tag or a requester after it was set
pub at_set : {X : Type 0} (l : List (Option X)) (i j : ℕ) (v : Option X) (x : X) → get_or (slice_set l i v) j None ≡ Some x → ((j ≡ i) × (v ≡ Some x)) ⊎ ((j ≢ i) × (get_or l j None ≡ Some x))
at_set l i j v x e = elim (cases_eq j i) [
  | inl same ↦ inl (same, set_here l i v x (below_or_not i (length l)) (subst (λ k. get_or (slice_set l i v) k None ≡ Some x) same e))
  | inr other ↦ inr (other, sym (get_or-set_other l i j v None other) ∙ e)
]
  where
    set_here : {X : Type 0} (l : List (Option X)) (i : ℕ) (v : Option X) (x : X) → (i < length l) ⊎ (length l ≤ i) → get_or (slice_set l i v) i None ≡ Some x → v ≡ Some x
    set_here l i v x (inl lt) e = sym (get_or-set_same l i v None lt) ∙ e
    set_here l i v x (inr le) e = absurd (let n = get_or_past (slice_set l i v) i None (omega (arith, le, length-set l i v)) in cc)

-- ---- submissions

pub made_ans : (i j k : ℕ) (r : Reply) (n : ℕ) (rs : List Record) → submissions (rs ++ records.Ans j k r n ∷ []) i ≡ submissions rs i
made_ans i j k r n rs = filter_map-append (submission i) rs (records.Ans j k r n ∷ []) ∙ append-nil (submissions rs i)

pub made_own : (i k n : ℕ) (op : Op) (rs : List Record) → submissions (rs ++ records.Sub i k op n ∷ []) i ≡ submissions rs i ++ op ∷ []
made_own i k n op rs = filter_map-append (submission i) rs (records.Sub i k op n ∷ []) ∙ ap (λ (l : List Op). submissions rs i ++ l) one
  where
    one : submissions (records.Sub i k op n ∷ []) i ≡ op ∷ []
    one = rw (eq-eqb i i refl) refl

pub made_other : (i j k n : ℕ) (op : Op) (rs : List Record) → j ≢ i → submissions (rs ++ records.Sub j k op n ∷ []) i ≡ submissions rs i
made_other i j k n op rs ne = filter_map-append (submission i) rs (records.Sub j k op n ∷ []) ∙ (ap (λ (l : List Op). submissions rs i ++ l) none ∙ append-nil (submissions rs i))
  where
    none : submissions (records.Sub j k op n ∷ []) i ≡ []
    none = rw (ne_eqb i j (λ h. ne (sym h))) refl

-- ---- one more record

-- it isn't an answer to another request
pub not_this : (i k j m n : ℕ) (r : Reply) → ((i ≡ j) → (k ≡ m) → ⊥) → answers_to i k (records.Ans j m r n) ≡ false
not_this i k j m n r ne = grind (arith, nat_tests)

pub asked_longer : (rs : List Record) (r : Record) (i k : ℕ) → IsAsked rs i k → answers_to i k r ≡ false → IsAsked (rs ++ r ∷ []) i k
asked_longer rs r i k a e = record {
  place = a.place;
  op = a.op;
  since = a.since;
  asked = get_longer rs (r ∷ []) a.place (records.Sub i k a.op a.since) a.asked;
  not_posted = a.not_posted;
  unanswered = none_more (answers_to i k) rs r a.unanswered e;
}

-- a request that was just submitted
pub asked_now : (rs : List Record) (i k n : ℕ) (op : Op) → is_posted op ≡ false → list_any (answers_to i k) rs ≡ false → IsAsked (rs ++ records.Sub i k op n ∷ []) i k
asked_now rs i k n op e f = record {
  place = length rs;
  op = op;
  since = n;
  asked = get_last rs (records.Sub i k op n);
  not_posted = e;
  unanswered = none_more (answers_to i k) rs (records.Sub i k op n) f refl;
}

before : (rs : List Record) (r : Record) (a : ℕ) → a ≤ length rs → take a (rs ++ r ∷ []) ≡ take a rs
before rs r a h = take-append-le a rs (r ∷ []) h

all_before : (rs : List Record) (r : Record) (a : ℕ) → a ≡ length rs → take a (rs ++ r ∷ []) ≡ rs
all_before rs r a e = before rs r a (omega arith) ∙ take_all a rs (omega arith)

-- a record that keeps the form
pub formed_push : (rs : List Record) (r : Record) → IsWellFormed rs
    → ((i k n : ℕ) (op : Op) → r ≡ records.Sub i k op n → k ≡ length (submissions rs i))
    → ((i k n : ℕ) (reply : Reply) → r ≡ records.Ans i k reply n → IsAsked rs i k)
    → IsWellFormed (rs ++ r ∷ [])
formed_push rs r f number asked = record {
  numbered = λ a i k n op e. ⊎_elim
      (λ (g : (a < length rs) × (slice_get rs a ≡ Some (records.Sub i k op n))).
      let l : a < length rs = g.0 in
      f.numbered a i k n op g.1 ∙ ap (λ (x : List Record). length (submissions x i)) (sym (before rs r a (omega arith))))
      (λ (g : (a ≡ length rs) × (r ≡ records.Sub i k op n)).
      number i k n op g.1 ∙ ap (λ (x : List Record). length (submissions x i)) (sym (all_before rs r a g.0)))
      (get_push rs r a (records.Sub i k op n) e);
  answers = λ a i k n reply e. ⊎_elim
      (λ (g : (a < length rs) × (slice_get rs a ≡ Some (records.Ans i k reply n))).
      let l : a < length rs = g.0 in
      subst (λ (x : List Record). IsAsked x i k) (sym (before rs r a (omega arith))) (f.answers a i k n reply g.1))
      (λ (g : (a ≡ length rs) × (r ≡ records.Ans i k reply n)).
      subst (λ (x : List Record). IsAsked x i k) (sym (all_before rs r a g.0)) (asked i k n reply g.1))
      (get_push rs r a (records.Ans i k reply n) e);
}

pub formed_none : IsWellFormed []
formed_none = record { numbered = λ a i k n op e. absurd cc; answers = λ a i k n reply e. absurd cc }
