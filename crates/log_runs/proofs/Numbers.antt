-- Submissions and their numbers.
use Rattle.std.proofs.Common.{◌≡◌, ◌∙◌, ℕ, zero, suc, ◌+◌, ◌<◌, ◌≤◌, Bool, List, [], ◌∷◌, ◌++◌, length, take, drop, Option, Some, None, refl, sym, ap, inl, inr, arith, length-append, take-append-drop, append-nil}
use Rattle.std.specs.Prelude.{slice_get, ◌==◌, if◌then◌else◌}
use Rattle.std.specs.List.{cons_option}
use Rattle.std.proofs.lemmas.Bool.{cases_lt, cases_Bool, eq-eqb, eqb-true, ne_eqb}
use Rattle.std.proofs.lemmas.Option.{same_Some, slice_get_within}
use Rattle.std.proofs.Math.Seq.{take-length}
use Rattle.std.proofs.lemmas.List.Elements.{filter_map-append}
use Rattle.tlp_core.specs.Ops.{Op}
use Rattle.seq_memory.specs.Entries.{Reply}
use Rattle.history_words.specs.Records.{Record}
use Rattle.history_words.specs.declared.record.RecordOf.TheVariants as records
use Rattle.history_words.specs.Trace.{submission, submissions, IsNumbered}
use Rattle.log_runs.proofs.Lists.{take_more_at, take_of_take, from_take, to_take}

own : (i k n : ℕ) (op : Op) → submission i (records.Sub i k op n) ≡ Some op
own i k n op = ap (λ (b : Bool). if b then Some op else None) (eq-eqb i i refl)

one_more : (rs : List Record) (a i k n : ℕ) (op : Op) → slice_get rs a ≡ Some (records.Sub i k op n) → submissions (take (a + 1) rs) i ≡ submissions (take a rs) i ++ op ∷ []
one_more rs a i k n op at =
    ap (λ (xs : List Record). submissions xs i) (take_more_at rs a (records.Sub i k op n) at)
    ∙ filter_map-append (submission i) (take a rs) (records.Sub i k op n ∷ [])
    ∙ ap (λ (o : Option Op). submissions (take a rs) i ++ cons_option o []) (own i k n op)

-- a longer prefix has no fewer submissions
no_fewer : (rs : List Record) (a b i : ℕ) → a ≤ b → (rest : List Op) × (submissions (take b rs) i ≡ submissions (take a rs) i ++ rest)
no_fewer rs a b i l =
    let split : take b rs ≡ take a rs ++ drop a (take b rs) = sym (ap (λ (xs : List Record). xs ++ drop a (take b rs)) (sym (take_of_take rs a b l)) ∙ take-append-drop a (take b rs)) in
    (submissions (drop a (take b rs)) i, ap (λ (xs : List Record). submissions xs i) split ∙ filter_map-append (submission i) (take a rs) (drop a (take b rs)))

pub count_more : (rs : List Record) (a b i k n : ℕ) (op : Op) → slice_get rs a ≡ Some (records.Sub i k op n) → a < b → length (submissions (take a rs) i) < length (submissions (take b rs) i)
count_more rs a b i k n op at l =
    let one : length (submissions (take (a + 1) rs) i) ≡ length (submissions (take a rs) i) + 1 = ap length (one_more rs a i k n op at) ∙ length-append (submissions (take a rs) i) (op ∷ []) in
    let (rest, more) = no_fewer rs (a + 1) b i (omega arith) in
    let two : length (submissions (take b rs) i) ≡ length (submissions (take (a + 1) rs) i) + length rest = ap length more ∙ length-append (submissions (take (a + 1) rs) i) rest in
    omega arith

module _ (rs : List Record) (numbered : IsNumbered rs) where
  -- a later submission of the same requester has a greater number
  pub number_rises : (a b i k l n m : ℕ) (op w : Op) → slice_get rs a ≡ Some (records.Sub i k op n) → slice_get rs b ≡ Some (records.Sub i l w m) → a < b → k < l
  number_rises a b i k l n m op w at bt before =
      let one = numbered a i k n op at in
      let two = numbered b i l m w bt in
      let more = count_more rs a b i k n op at before in
      omega arith

  -- no two submissions have one number
  pub unique : (a b i k n m : ℕ) (op w : Op) → slice_get rs a ≡ Some (records.Sub i k op n) → slice_get rs b ≡ Some (records.Sub i k w m) → a ≡ b
  unique a b i k n m op w at bt = elim (cases_lt a b) [
    | inl l ↦ absurd (omega (arith, number_rises a b i k k n m op w at bt l))
    | inr g ↦ elim (cases_lt b a) [
      | inl l ↦ absurd (omega (arith, number_rises b a i k k m n w op bt at l))
      | inr h ↦ omega arith
    ]
  ]

get_past : {X : Type 0} → (xs : List X) (y : X) (ys : List X) → slice_get (xs ++ y ∷ ys) (length xs) ≡ Some y
get_past [] y ys = refl
get_past (x ∷ xs) y ys = get_past xs y ys

-- a submission is in its requester's list, under its number
pub listed : (rs : List Record) → IsNumbered rs → (a i k n : ℕ) (op : Op) → slice_get rs a ≡ Some (records.Sub i k op n) → slice_get (submissions rs i) k ≡ Some op
listed rs numbered a i k n op at =
    let here = one_more rs a i k n op at in
    let all : submissions rs i ≡ submissions (take (a + 1) rs) i ++ submissions (drop (a + 1) rs) i =
    sym (ap (λ (xs : List Record). submissions xs i) (take-append-drop (a + 1) rs)) ∙ filter_map-append (submission i) (take (a + 1) rs) (drop (a + 1) rs) in
    let shown : submissions rs i ≡ submissions (take a rs) i ++ op ∷ submissions (drop (a + 1) rs) i =
    all ∙ ap (λ (xs : List Op). xs ++ submissions (drop (a + 1) rs) i) here ∙ assoc (submissions (take a rs) i) op (submissions (drop (a + 1) rs) i) in
    rw (shown, numbered a i k n op at) (get_past (submissions (take a rs) i) op (submissions (drop (a + 1) rs) i))
  where
    assoc : (xs : List Op) (y : Op) (ys : List Op) → (xs ++ y ∷ []) ++ ys ≡ xs ++ y ∷ ys
    assoc [] y ys = refl
    assoc (x ∷ xs) y ys = ap (λ zs. x ∷ zs) (assoc xs y ys)

-- ---- the submission of what is in the list

record Located (rs : List Record) (i k : ℕ) (op : Op) : Type 0 where
  place : ℕ
  number : ℕ
  n : ℕ
  at : slice_get rs place ≡ Some (records.Sub i number op n)
  count : length (submissions (take place rs) i) ≡ k

of_own : (i : ℕ) (r : Record) (op : Op) → submission i r ≡ Some op → (k : ℕ) × (n : ℕ) × (r ≡ records.Sub i k op n)
of_own i (records.Ans j k reply n) op e = cc
of_own i (records.Sub j k w n) op e = elim (cases_Bool (i == j)) [
  | inl same ↦
      let one : i ≡ j = eqb-true i j same in
      let two : w ≡ op = same_Some w op (sym (ap (λ (b : Bool). if b then Some w else None) same) ∙ e) in
      (k, n, rw (one, two) refl)
  | inr other ↦ let three : None ≡ Some op = sym (ap (λ (b : Bool). if b then Some w else None) other) ∙ e in cc
]

find_by : (r : Record) (rs : List Record) (i k : ℕ) (op : Op) (o : Option Op) → ((k : ℕ) → slice_get (submissions rs i) k ≡ Some op → Located rs i k op) → submission i r ≡ o → slice_get (cons_option o (submissions rs i)) k ≡ Some op → Located (r ∷ rs) i k op
find_by r rs i k op None find is e =
    let f = find k e in
    record { place = suc f.place; number = f.number; n = f.n; at = f.at; count = ap (λ (o : Option Op). length (cons_option o (submissions (take f.place rs) i))) is ∙ f.count }
find_by r rs i zero op (Some w) find is e =
    let (k, n, eq) = of_own i r op (is ∙ e) in
    record { place = 0; number = k; n = n; at = ap Some eq; count = refl }
find_by r rs i (suc k) op (Some w) find is e =
    let f = find k e in
    record { place = suc f.place; number = f.number; n = f.n; at = f.at; count = ap (λ (o : Option Op). length (cons_option o (submissions (take f.place rs) i))) is ∙ ap suc f.count }

find : (rs : List Record) (i k : ℕ) (op : Op) → slice_get (submissions rs i) k ≡ Some op → Located rs i k op
find [] i k op e = cc
find (r ∷ rs) i k op e = find_by r rs i k op (submission i r) (λ l at. find rs i l op at) refl e

pub located : (rs : List Record) → IsNumbered rs → (i k : ℕ) (op : Op) → slice_get (submissions rs i) k ≡ Some op → (b : ℕ) × (n : ℕ) × (slice_get rs b ≡ Some (records.Sub i k op n))
located rs numbered i k op e =
    let f = find rs i k op e in
    let same : f.number ≡ k = numbered f.place i f.number f.n op f.at ∙ f.count in
    (f.place, f.n, f.at ∙ ap (λ k. Some (records.Sub i k op f.n)) same)

-- ---- one record more

others : (i j k n : ℕ) (op : Op) → (j ≡ i → ⊥) → submission j (records.Sub i k op n) ≡ None
others i j k n op d = ap (λ (b : Bool). if b then Some op else None) (ne_eqb j i d)

pub grows_own : (rs : List Record) (a i k n : ℕ) (op : Op) → slice_get rs a ≡ Some (records.Sub i k op n) → submissions (take (a + 1) rs) i ≡ submissions (take a rs) i ++ op ∷ []
grows_own rs a i k n op at = one_more rs a i k n op at

pub grows_other : (rs : List Record) (a i j k n : ℕ) (op : Op) → slice_get rs a ≡ Some (records.Sub i k op n) → (j ≡ i → ⊥) → submissions (take (a + 1) rs) j ≡ submissions (take a rs) j
grows_other rs a i j k n op at d =
    ap (λ (xs : List Record). submissions xs j) (take_more_at rs a (records.Sub i k op n) at)
    ∙ filter_map-append (submission j) (take a rs) (records.Sub i k op n ∷ [])
    ∙ ap (λ (o : Option Op). submissions (take a rs) j ++ cons_option o []) (others i j k n op d)
    ∙ append-nil (submissions (take a rs) j)

pub grows_answer : (rs : List Record) (a i j k n : ℕ) (reply : Reply) → slice_get rs a ≡ Some (records.Ans i k reply n) → submissions (take (a + 1) rs) j ≡ submissions (take a rs) j
grows_answer rs a i j k n reply at =
    ap (λ (xs : List Record). submissions xs j) (take_more_at rs a (records.Ans i k reply n) at)
    ∙ filter_map-append (submission j) (take a rs) (records.Ans i k reply n ∷ [])
    ∙ append-nil (submissions (take a rs) j)

numbered_more : (rs : List Record) (a : ℕ) → IsNumbered (take a rs) → ((i k n : ℕ) (op : Op) → slice_get rs a ≡ Some (records.Sub i k op n) → k ≡ length (submissions (take a rs) i)) → IsNumbered (take (a + 1) rs)
numbered_more rs a before last b i k n op at =
    let (there, less) = from_take rs (a + 1) b (records.Sub i k op n) at in
    let front : length (submissions (take b rs) i) ≡ length (submissions (take b (take (a + 1) rs)) i) =
    ap (λ (xs : List Record). length (submissions xs i)) (sym (take_of_take rs b (a + 1) (omega arith))) in
    elim (cases_lt b a) [
      | inl low ↦
          before b i k n op (to_take rs a b (records.Sub i k op n) low there)
          ∙ ap (λ (xs : List Record). length (submissions xs i)) (take_of_take rs b a (omega arith)) ∙ front
      | inr high ↦
          let same : b ≡ a = omega arith in
          last i k n op (ap (slice_get rs) (sym same) ∙ there) ∙ ap (λ c. length (submissions (take c rs) i)) (sym same) ∙ front
    ]

pub numbered_submission : (rs : List Record) (a i k n : ℕ) (op : Op) → IsNumbered (take a rs) → slice_get rs a ≡ Some (records.Sub i k op n) → k ≡ length (submissions (take a rs) i) → IsNumbered (take (a + 1) rs)
numbered_submission rs a i k n op before at count = numbered_more rs a before (λ j l m w there.
    let eq : Some (records.Sub i k op n) ≡ Some (records.Sub j l w m) = sym at ∙ there in
    let one : i ≡ j = cc in
    let two : k ≡ l = cc in
    sym two ∙ count ∙ ap (λ i. length (submissions (take a rs) i)) one)

pub numbered_answer : (rs : List Record) (a i k n : ℕ) (reply : Reply) → IsNumbered (take a rs) → slice_get rs a ≡ Some (records.Ans i k reply n) → IsNumbered (take (a + 1) rs)
numbered_answer rs a i k n reply before at = numbered_more rs a before (λ j l m w there.
    let eq : Some (records.Ans i k reply n) ≡ Some (records.Sub j l w m) = sym at ∙ there in
    cc)

pub number_below : (rs : List Record) (b i k n : ℕ) (op : Op) → IsNumbered rs → slice_get rs b ≡ Some (records.Sub i k op n) → k < length (submissions rs i)
number_below rs b i k n op numbered at =
    let l = slice_get_within rs b (records.Sub i k op n) at in
    let more = count_more rs b (length rs) i k n op at l in
    let whole : length (submissions (take (length rs) rs) i) ≡ length (submissions rs i) = ap (λ (xs : List Record). length (submissions xs i)) (take-length rs) in
    let own = numbered b i k n op at in
    omega arith

pub unique_place : (rs : List Record) (a b i k n m : ℕ) (op w : Op) → IsNumbered rs → slice_get rs a ≡ Some (records.Sub i k op n) → slice_get rs b ≡ Some (records.Sub i k w m) → a ≡ b
unique_place rs a b i k n m op w numbered at there = unique rs numbered a b i k n m op w at there
