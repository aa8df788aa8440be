-- What a report of additions comes to.
use Rattle.std.proofs.Common.{◌≡◌, ◌≢◌, ℕ, zero, suc, ◌+◌, ◌-◌, ◌*◌, ◌%◌, ◌^◌, ◌<◌, ◌≤◌, ◌⊎◌, ⊎_elim, inl, inr, Bool, true, false, cond, eqb, ◌&&◌, ◌||◌, List, [], ◌∷◌, length, take, drop, replicate, refl, sym, ap, subst, ◌∙◌, true≢false, eq-eqb, ne_eqb, add-zero, arith}
use Rattle.std.proofs.lemmas.Bool.{eqb-true, cases_lt}
use Rattle.std.specs.List.{count_by, list_any, cons_option, AllByRecursion as Each}
use Rattle.std.specs.Prelude.{Some, None, slice_get, nat_lt}
use Rattle.byteorder.specs.Endian.{little_number}
use native.Mathlib.Decide.{ℕ_discrete}
use Rattle.tlp_core.specs.Ops.{Op}
use Rattle.seq_memory.specs.Entries.{Entry}
use Rattle.seq_memory.specs.Entries.{Reply}
use Rattle.seq_memory.specs.Limits.{Extent}
use Rattle.seq_memory.specs.Step.{bytes_at}
use Rattle.seq_memory.specs.History.{contents}
use Rattle.history_words.specs.Records.{Record}
use Rattle.history_words.specs.declared.record.RecordOf.TheVariants as records
use Rattle.history_words.specs.Lookup.{requester_of}
use Rattle.history_words.specs.TraceView.{TraceView}
use Rattle.history_words.specs.Claim.{claim_of}
use Rattle.history_words.specs.Trace.{submissions, answers_to, is_request, Explains}
use Rattle.worker_requester.specs.Following.{IsAnswered}
use Rattle.worker_report.specs.OneRun.{AreBelow}
use Rattle.workers.specs.Running.{AreDone}
use Rattle.run_engine.specs.Counting.{addition, script_of, scripts_of}
use Rattle.run_engine.specs.Text.{is_answer, answers_in, first_word}
use Rattle.run_engine.proofs.Countings.{none_some, same_some, both_true, count_all, count_once, count_pairs}

-- ---- what each requester did

done_at : (rs : List Record) (s : List Op) (n j : ℕ) → AreDone rs j (replicate n s) → (i : ℕ) → j ≤ i → i < j + n → (submissions rs i ≡ s) × IsAnswered i s rs
done_at rs s zero j h i above below = absurd (omega arith)
done_at rs s (suc n) j h i above below = elim (ℕ_discrete j i) as (λ _. (submissions rs i ≡ s) × IsAnswered i s rs) [
  | yes e ↦ subst (λ k. (submissions rs k ≡ s) × IsAnswered k s rs) e (h.0, h.1)
  | no other ↦ done_at rs s n (j + 1) h.2 i (omega arith) (omega arith)
]

done_below : (rs : List Record) (s : List Op) (n j : ℕ) → AreDone rs j (replicate n s) → AreBelow (j + n) rs
done_below rs s zero j h = subst (λ k. AreBelow k rs) (sym (add-zero j)) h
done_below rs s (suc n) j h = subst (λ k. AreBelow k rs) (omega arith) (done_below rs s n (j + 1) h.2)

-- a requester without a record submitted nothing
no_submission : (i : ℕ) (rs : List Record) → Each (λ r. i ≢ requester_of r) rs → submissions rs i ≡ []
no_submission i [] h = refl
no_submission i (records.Sub j k op n ∷ rs) h = ap (λ b. cons_option (cond b (Some op) None) (submissions rs i)) (ne_eqb i j h.0) ∙ no_submission i rs h.1
no_submission i (records.Ans j k reply n ∷ rs) h = no_submission i rs h.1

abbrev IsWithin : ℕ → ℕ → Type 0
IsWithin n i = (0 < i) × (i < n)

absent : (i n : ℕ) (rs : List Record) → AreBelow n rs → ¬ IsWithin n i → Each (λ r. i ≢ requester_of r) rs
absent i n [] below apart = tt
absent i n (r ∷ rs) below apart = ((λ e. apart (subst (IsWithin n) (sym e) below.0)), absent i n rs below.1 apart)

within_or_not : (n i : ℕ) → IsWithin n i ⊎ (¬ IsWithin n i)
within_or_not n i = ⊎_elim (λ (lt : 0 < i). ⊎_elim (λ (below : i < n). inl (lt, below)) (λ (above : n ≤ i). inr (λ w. let most = w.1 in omega arith)) (cases_lt i n)) (λ (none : i ≤ 0). inr (λ w. let least = w.0 in omega arith)) (cases_lt 0 i)

-- ---- scripts

at_replicate : (n k : ℕ) (x y : Op) → slice_get (replicate n x) k ≡ Some y → (k < n) × (y ≡ x)
at_replicate zero k x y e = absurd (none_some y e)
at_replicate (suc n) zero x y e = (omega arith, sym (same_some x y e))
at_replicate (suc n) (suc k) x y e = let more = at_replicate n k x y e in let below = more.0 in (omega arith, more.1)

replicate_at : (n k : ℕ) (x : Op) → k < n → slice_get (replicate n x) k ≡ Some x
replicate_at zero k x below = absurd (omega arith)
replicate_at (suc n) zero x below = refl
replicate_at (suc n) (suc k) x below = replicate_at n k x (omega arith)

-- ---- answers

record AnsweredAt (rs : List Record) (i k : ℕ) : Type 0 where
  pub place : ℕ
  pub reply : Reply
  pub since : ℕ
  pub at : slice_get rs place ≡ Some (records.Ans i k reply since)

behind : (r : Record) (rs : List Record) (i k : ℕ) → AnsweredAt rs i k → AnsweredAt (r ∷ rs) i k
behind r rs i k found = record { place = suc found.place; reply = found.reply; since = found.since; at = found.at }

here_or_behind : (j m : ℕ) (reply : Reply) (n : ℕ) (rs : List Record) (i k : ℕ) → (b : Bool) → (eqb i j && eqb k m) ≡ b → ((eqb i j && eqb k m) || list_any (answers_to i k) rs) ≡ true
    → (list_any (answers_to i k) rs ≡ true → AnsweredAt rs i k) → AnsweredAt (records.Ans j m reply n ∷ rs) i k
here_or_behind j m reply n rs i k true t e rest =
    let same = both_true (eqb i j) (eqb k m) t in
    record { place = 0; reply = reply; since = n; at = λ x. Some (records.Ans (sym (eqb-true i j same.0) x) (sym (eqb-true k m same.1) x) reply n) }
here_or_behind j m reply n rs i k false t e rest = behind (records.Ans j m reply n) rs i k (rest (ap (λ b. b || list_any (answers_to i k) rs) (sym t) ∙ e))

answered_at : (rs : List Record) (i k : ℕ) → list_any (answers_to i k) rs ≡ true → AnsweredAt rs i k
answered_at [] i k e = absurd (true≢false (sym e))
answered_at (records.Sub j m op n ∷ rs) i k e = behind (records.Sub j m op n) rs i k (answered_at rs i k e)
answered_at (records.Ans j m reply n ∷ rs) i k e = here_or_behind j m reply n rs i k (eqb i j && eqb k m) refl e (answered_at rs i k)

abbrev number_of : Record → ℕ
number_of (records.Sub i k op n) = k
number_of (records.Ans i k reply n) = k

-- the answers to request k of requester i, by their numbers
abbrev answers_by : ℕ → ℕ → Record → Bool
answers_by i k r = (is_answer r && eqb i (requester_of r)) && eqb k (number_of r)

answers_by_is : (i k : ℕ) (r : Record) → answers_by i k r ≡ answers_to i k r
answers_by_is i k (records.Sub j m op n) = refl
answers_by_is i k (records.Ans j m reply n) = refl

-- ---- the history and the answers

-- an entry is one of so many additions of one of so many requesters
abbrev IsOne : ℕ → ℕ → Entry → Type 0
IsOne n m e = IsWithin (suc n) e.requester × (e.number < m) × (e.op ≡ addition)

module _ (n m : ℕ) (t : TraceView) (h : List Entry) (is : Explains (claim_of t h)) (done : AreDone t.records 1 (scripts_of n m)) where
  below : AreBelow (suc n) t.records
  below = subst (λ k. AreBelow k t.records) (omega arith) (done_below t.records (script_of m) n 1 done)

  did : (i : ℕ) → IsWithin (suc n) i → (submissions t.records i ≡ script_of m) × IsAnswered i (script_of m) t.records
  did i w = let least = w.0 in let most = w.1 in done_at t.records (script_of m) n 1 done i (omega arith) (omega arith)

  entry_is : (p : ℕ) (e : Entry) → slice_get h p ≡ Some e → IsOne n m e
  entry_is p e at =
      let law = is.legal p e at in
      let w : IsWithin (suc n) e.requester = ⊎_elim (λ x. x)
      (λ none. absurd (none_some e.op (ap (λ l. slice_get l e.number) (sym (no_submission e.requester t.records (absent e.requester (suc n) t.records below none))) ∙ law.submitted)))
      (within_or_not (suc n) e.requester) in
      let found = at_replicate m e.number addition e.op (ap (λ l. slice_get l e.number) (sym (did e.requester w).0) ∙ law.submitted) in
      (w, found.0, found.1)

  answer_of : (i k : ℕ) → IsWithin (suc n) i → k < m → AnsweredAt t.records i k
  answer_of i k w under = answered_at t.records i k ((did i w).1 k addition (replicate_at m k addition under) refl)

  passes : (i k : ℕ) → (eqb i i && eqb k k) ≡ true
  passes i k = (λ x. eq-eqb i i refl x && eq-eqb k k refl x)

  stands_once : (i k : ℕ) → 0 < i → i < suc n → k < m → count_by (is_request i k) h ≡ 1
  stands_once i k least most under =
      let a = answer_of i k (least, most) under in
      let why = is.linear a.place i k a.since a.reply a.at in
      count_once (is_request i k) h why.point (record { requester = i; number = k; op = why.op }) why.acted (passes i k)
      (λ b e at it. let same = both_true (eqb i e.requester) (eqb k e.number) it in
      (λ x. list_any (is_request (eqb-true i e.requester same.0 x) (eqb-true k e.number same.1 x)) (take b h)) ∙ (is.legal b e at).once)

  answered_once : (i k : ℕ) → 0 < i → i < suc n → k < m → count_by (answers_to i k) t.records ≡ 1
  answered_once i k least most under =
      let a = answer_of i k (least, most) under in
      count_once (answers_to i k) t.records a.place (records.Ans i k a.reply a.since) a.at (passes i k) earlier
    where
      earlier : (b : ℕ) (r : Record) → slice_get t.records b ≡ Some r → answers_to i k r ≡ true → list_any (answers_to i k) (take b t.records) ≡ false
      earlier b (records.Sub j l op since) at it = absurd (true≢false (sym it))
      earlier b (records.Ans j l reply since) at it =
          let same = both_true (eqb i j) (eqb k l) it in
          (λ x. list_any (answers_to (eqb-true i j same.0 x) (eqb-true k l same.1 x)) (take b t.records)) ∙ (is.linear b j l since reply at).unanswered

  pub history_length : length h ≡ n * m
  history_length = sym (count_all h) ∙ count_pairs (λ _. true) (λ e. e.requester) (λ e. e.number) n m h (λ b e at _. let one = entry_is b e at in (one.0.0, one.0.1, one.1)) stands_once

  answer_is : (b : ℕ) (r : Record) → slice_get t.records b ≡ Some r → is_answer r ≡ true → (0 < requester_of r) × (requester_of r < suc n) × (number_of r < m)
  answer_is b (records.Sub i k op since) at it = absurd (true≢false (sym it))
  answer_is b (records.Ans i k reply since) at it =
      let why = is.linear b i k since reply at in
      let one = entry_is why.point (record { requester = i; number = k; op = why.op }) why.acted in
      (one.0.0, one.0.1, one.1)

  pub answer_count : answers_in t.records ≡ n * m
  answer_count = count_pairs is_answer requester_of number_of n m t.records answer_is
      (λ i k least most under. ap (λ test. count_by test t.records) (λ x r. answers_by_is i k r x) ∙ answered_once i k least most under)

  pub counts : (p : ℕ) (e : Entry) → slice_get h p ≡ Some e → e.op ≡ addition
  counts p e at = (entry_is p e at).2

-- ---- the word

pub word_is : (x : Extent) (h : List Entry) → length (contents x h) ≡ x.size → x.base ≡ 0 → x.size ≡ 4096 → little_number 4 (bytes_at (contents x h) (0 - x.base) 4) ≡ length h % 2 ^ 32 → first_word (contents x h) ≡ length h % 2 ^ 32
word_is x h size base_is size_is number =
    ap (λ k. cond (nat_lt k 4) 0 (little_number 4 (take 4 (contents x h)))) (size ∙ size_is) ∙ ap (λ b. little_number 4 (take 4 (drop (0 - b) (contents x h)))) (sym base_is) ∙ number
