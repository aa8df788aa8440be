-- What a history explains of records it explains in any order that keeps each requester's.
use Rattle.std.proofs.Common.{◌≡◌, ℕ, zero, suc, ◌<◌, Bool, true, false, cond, eqb, ◌&&◌, ◌||◌, eq-eqb, List, [], ◌∷◌, length, take, refl, sym, ap, ◌∙◌, subst, arith}
use Rattle.std.specs.Prelude.{Some, None, slice_get}
use Rattle.std.specs.List.{list_any, cons_option}
use Rattle.tlp_core.specs.Ops.{Op}
use Rattle.seq_memory.specs.Entries.{Reply}
use Rattle.seq_memory.specs.History.{MemoryView}
use Rattle.history_words.specs.Records.{Record}
use Rattle.history_words.specs.declared.record.RecordOf.TheVariants as records
use Rattle.history_words.specs.Lookup.{requester_of}
use Rattle.history_words.specs.Trace.{submission, submissions, answers_to, IsLegal, IsExplained, Explains}
use Rattle.hall_laws.specs.Waiting.{records_by}

-- ---- what is said of one requester's records

-- a record of another requester submits nothing of this one, and answers nothing of it
nothing_of : (i : ℕ) (r : Record) → eqb i (requester_of r) ≡ false → submission i r ≡ None
nothing_of i (records.Sub j k op n) e = ap (λ b. cond b (Some op) None) e
nothing_of i (records.Ans j k reply n) e = refl

no_answer_of : (i k : ℕ) (r : Record) → eqb i (requester_of r) ≡ false → answers_to i k r ≡ false
no_answer_of i k (records.Sub j m op n) e = refl
no_answer_of i k (records.Ans j m reply n) e = ap (λ b. b && eqb k m) e

submissions_by_at : (i : ℕ) (r : Record) (rs : List Record) (b : Bool) → eqb i (requester_of r) ≡ b → submissions (records_by i rs) i ≡ submissions rs i → submissions (cond b (r ∷ records_by i rs) (records_by i rs)) i ≡ submissions (r ∷ rs) i
submissions_by_at i r rs true e h = ap (λ l. cons_option (submission i r) l) h
submissions_by_at i r rs false e h = h ∙ ap (λ o. cons_option o (submissions rs i)) (sym (nothing_of i r e))

submissions_by : (i : ℕ) (rs : List Record) → submissions (records_by i rs) i ≡ submissions rs i
submissions_by i [] = refl
submissions_by i (r ∷ rs) = submissions_by_at i r rs (eqb i (requester_of r)) refl (submissions_by i rs)

answers_by_at : (i k : ℕ) (r : Record) (rs : List Record) (b : Bool) → eqb i (requester_of r) ≡ b → list_any (answers_to i k) (records_by i rs) ≡ list_any (answers_to i k) rs
    → list_any (answers_to i k) (cond b (r ∷ records_by i rs) (records_by i rs)) ≡ list_any (answers_to i k) (r ∷ rs)
answers_by_at i k r rs true e h = ap (λ b. answers_to i k r || b) h
answers_by_at i k r rs false e h = h ∙ ap (λ b. b || list_any (answers_to i k) rs) (sym (no_answer_of i k r e))

answers_by : (i k : ℕ) (rs : List Record) → list_any (answers_to i k) (records_by i rs) ≡ list_any (answers_to i k) rs
answers_by i k [] = refl
answers_by i k (r ∷ rs) = answers_by_at i k r rs (eqb i (requester_of r)) refl (answers_by i k rs)

-- ---- a record in both orders

get_by_step : (b : Bool) (x r : Record) (u v : List Record) → slice_get v (length u) ≡ Some r → slice_get (cond b (x ∷ v) v) (length (cond b (x ∷ u) u)) ≡ Some r
get_by_step true x r u v h = h
get_by_step false x r u v h = h

get_by : (i : ℕ) (xs : List Record) (a : ℕ) (r : Record) → slice_get xs a ≡ Some r → i ≡ requester_of r → slice_get (records_by i xs) (length (records_by i (take a xs))) ≡ Some r
get_by i [] a r e own = absurd cc
get_by i (x ∷ xs) zero r e own =
    let same : x ≡ r = cc in
    ap (λ b. slice_get (cond b (x ∷ records_by i xs) (records_by i xs)) 0) (eq-eqb i (requester_of x) (own ∙ ap requester_of (sym same))) ∙ e
get_by i (x ∷ xs) (suc a) r e own = get_by_step (eqb i (requester_of x)) x r (records_by i (take a xs)) (records_by i xs) (get_by i xs a r e own)

take_by_step : (b : Bool) (x : Record) (u v : List Record) → take (length u) v ≡ u → take (length (cond b (x ∷ u) u)) (cond b (x ∷ v) v) ≡ cond b (x ∷ u) u
take_by_step true x u v h = ap (λ l. x ∷ l) h
take_by_step false x u v h = h

take_by : (i : ℕ) (xs : List Record) (a : ℕ) → take (length (records_by i (take a xs))) (records_by i xs) ≡ records_by i (take a xs)
take_by i xs zero = refl
take_by i [] (suc a) = refl
take_by i (x ∷ xs) (suc a) = take_by_step (eqb i (requester_of x)) x (records_by i (take a xs)) (records_by i xs) (take_by i xs a)

-- the record stands in the list, behind so many of the requester's
pub record StandsBehind (i : ℕ) (xs : List Record) (r : Record) (before : List Record) : Type 0 where
  pub place : ℕ
  pub at : slice_get xs place ≡ Some r
  pub behind : records_by i (take place xs) ≡ before

found_at : (i : ℕ) (x : Record) (xs : List Record) (t : Bool) → eqb i (requester_of x) ≡ t → (b : ℕ) (r : Record) → slice_get (cond t (x ∷ records_by i xs) (records_by i xs)) b ≡ Some r
    → ((c : ℕ) → slice_get (records_by i xs) c ≡ Some r → StandsBehind i xs r (take c (records_by i xs))) → StandsBehind i (x ∷ xs) r (take b (cond t (x ∷ records_by i xs) (records_by i xs)))
found_at i x xs true e zero r at further = record { place = 0; at = at; behind = refl }
found_at i x xs true e (suc b) r at further =
    let h = further b at in record { place = suc h.place; at = h.at; behind = ap (λ t. cond t (x ∷ records_by i (take h.place xs)) (records_by i (take h.place xs))) e ∙ ap (λ l. x ∷ l) h.behind }
found_at i x xs false e b r at further =
    let h = further b at in record { place = suc h.place; at = h.at; behind = ap (λ t. cond t (x ∷ records_by i (take h.place xs)) (records_by i (take h.place xs))) e ∙ h.behind }

found : (i : ℕ) (xs : List Record) (b : ℕ) (r : Record) → slice_get (records_by i xs) b ≡ Some r → StandsBehind i xs r (take b (records_by i xs))
found i [] b r at = absurd cc
found i (x ∷ xs) b r at = found_at i x xs (eqb i (requester_of x)) refl b r at (λ c there. found i xs c r there)

-- a record of the requester stands in both orders, behind the same of its own
pub moved : (i : ℕ) (xs ys : List Record) (a : ℕ) (r : Record) → records_by i xs ≡ records_by i ys → slice_get xs a ≡ Some r → i ≡ requester_of r → StandsBehind i ys r (records_by i (take a xs))
moved i xs ys a r same at own =
    let n = length (records_by i (take a xs)) in
    let h = found i ys n r (ap (λ l. slice_get l n) (sym same) ∙ get_by i xs a r at own) in
    record { place = h.place; at = h.at; behind = h.behind ∙ ap (take n) (sym same) ∙ take_by i xs a }

-- ---- an answer is explained in both

get_take : (xs : List Record) (c n : ℕ) (r : Record) → slice_get xs c ≡ Some r → c < n → slice_get (take n xs) c ≡ Some r
get_take [] c n r e h = absurd cc
get_take (x ∷ xs) c zero r e h = absurd (omega arith)
get_take (x ∷ xs) zero (suc n) r e h = e
get_take (x ∷ xs) (suc c) (suc n) r e h = get_take xs c n r e (omega arith)

pub take_get : (xs : List Record) (c n : ℕ) (r : Record) → slice_get (take n xs) c ≡ Some r → (c < n) × (slice_get xs c ≡ Some r)
take_get xs c zero r e = absurd cc
take_get [] c (suc n) r e = absurd cc
take_get (x ∷ xs) zero (suc n) r e = ((omega arith), e)
take_get (x ∷ xs) (suc c) (suc n) r e = let h = take_get xs c n r e in let less = h.0 in ((omega arith), h.1)

explained : (m : MemoryView) (xs ys : List Record) (i k : ℕ) (reply : Reply) (n : ℕ) → records_by i xs ≡ records_by i ys → IsExplained m xs i k reply n → IsExplained m ys i k reply n
explained m xs ys i k reply n same x =
    let h = moved i xs ys x.place (records.Sub i k x.op x.since) same x.asked refl in record {
      place = h.place;
      op = x.op;
      since = x.since;
      point = x.point;
      asked = h.at;
      not_posted = x.not_posted;
      unanswered = sym (answers_by i k ys) ∙ ap (list_any (answers_to i k)) (sym same) ∙ answers_by i k xs ∙ x.unanswered;
      acted = x.acted;
      after_submission = x.after_submission;
      before_answer = x.before_answer;
      replied = x.replied;
      above = λ c j until r earlier at.
          let back = moved i (take h.place ys) (take x.place xs) c (records.Ans i j r until) h.behind (get_take ys c h.place (records.Ans i j r until) at earlier) refl in
          let there = take_get xs back.place x.place (records.Ans i j r until) back.at in
          x.above back.place j until r there.0 there.1;
    }

-- ---- all of it

same_submissions : (rs ss : List Record) → ((i : ℕ) → records_by i rs ≡ records_by i ss) → (i : ℕ) → submissions ss i ≡ submissions rs i
same_submissions rs ss same i = sym (submissions_by i ss) ∙ ap (λ l. submissions l i) (sym (same i)) ∙ submissions_by i rs

pub explains : (m : MemoryView) (rs ss : List Record) → ((i : ℕ) → records_by i rs ≡ records_by i ss) → Explains (record { memory = m; records = ss }) → Explains (record { memory = m; records = rs })
explains m rs ss same x = record {
  numbered = λ a i k n op at.
      let h = moved i rs ss a (records.Sub i k op n) (same i) at refl in
      x.numbered h.place i k n op h.at ∙ ap length (sym (submissions_by i (take h.place ss)) ∙ ap (λ l. submissions l i) h.behind ∙ submissions_by i (take a rs));
  legal = subst (λ (s : ℕ → List Op). IsLegal s m.entries) (λ j i. same_submissions rs ss same i j) x.legal;
  linear = λ a i k n reply at.
      let h = moved i rs ss a (records.Ans i k reply n) (same i) at refl in
      explained m (take h.place ss) (take a rs) i k reply n h.behind (x.linear h.place i k n reply h.at);
}
