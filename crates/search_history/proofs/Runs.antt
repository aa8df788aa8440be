-- Runs through records, and what they are.
use Rattle.std.proofs.Common.{◌≡◌, ◌∙◌, ℕ, zero, suc, ◌+◌, ◌-◌, ◌<◌, ◌≤◌, Bool, true, false, List, [], ◌∷◌, ◌++◌, map, take, drop, get_or, set, length, Option, None, Some, refl, sym, ap, subst, inl, inr, arith, add-one, append_assoc, take-append-drop}
use Rattle.std.specs.Prelude.{slice_get, option_and_then, is_some, IfNone, replicate}
use Rattle.std.specs.List.{cons_option}
use Rattle.std.proofs.Math.Seq.{take-suc, take-length, drop-length}
use Rattle.std.proofs.lemmas.List.{append-nil, drop-set-lt}
use Rattle.std.proofs.lemmas.Option.{same_Some}
use Rattle.seq_memory.specs.Limits.{Extent}
use Rattle.seq_memory.specs.Entries.{Entry, Reply}
use Rattle.seq_memory.specs.declared.reply.ReplyOf.TheVariants as replies
use Rattle.seq_memory.specs.History.{MemoryView}
use Rattle.seq_memory.specs.Step.{after, answer}
use Rattle.history_words.specs.Records.{Record}
use Rattle.history_words.specs.declared.record.RecordOf.TheVariants as records
use Rattle.history_words.specs.TraceView.{TraceView, observed}
use Rattle.history_words.specs.Claim.{Claim, claim_of}
use Rattle.history_words.specs.Trace.{Explains}
use Rattle.history_words.specs.Clocks.{IsClocked}
use Rattle.log_runs.specs.EventView.{EventView}
use Rattle.log_runs.specs.Explainable.{IsSeenAs, AreSeenAs, IsExplainable, SeenAlike, prefix}
use Rattle.log_runs.specs.Histories.{history_of, timed_from, timed, with_answer, with_replies, completed}
use Rattle.log_runs.specs.LogView.{LogView}
use Rattle.log_runs.specs.Runs.{Live, Dead, start}
use Rattle.log_runs.specs.Tasks.{AreAllEvents, IsWellFormed}
use Rattle.log_runs.specs.declared.Step.{Step}
use Rattle.log_runs.specs.declared.Step.TheVariants as steps
use Rattle.log_events.specs.Formed.{AreFormed}
use Rattle.search_run.specs.Outcomes.{IsRun, IsRight}
use Rattle.search_run.specs.Watched.{Stands}
use Rattle.search_run.specs.declared.exploring.Outcome.{Outcome}
use Rattle.search_run.specs.declared.exploring.Outcome.TheVariants as outcomes
use Rattle.trace_store.specs.Changes.{seen_by, submitted, with_n}
use Rattle.search_history.specs.Runs.{IsRunOf, IsOutcomeOf, IsVerdictOf}
use Rattle.search_history.specs.declared.searching.Verdict.{Verdict}
use Rattle.search_history.proofs.Prefixing.{of}

-- ---- outcomes

pub right_dead : (log : LogView) (o : Outcome) → o ≡ outcomes.Dead → Dead log (start log) → IsRight log o
right_dead log o e dead = subst (IsRight log) (sym e) dead

pub dead_of : (log : LogView) (o : Outcome) → IsRight log o → o ≡ outcomes.Dead → Dead log (start log)
dead_of log o right e = subst (IsRight log) e right

-- ---- runs through records

pub is_run : (t : TraceView) (count : ℕ) (log : LogView) (xs : List Step) → AreAllEvents (take count t.records) log.events → log.extent ≡ observed t → IsRun log xs → IsWellFormed (take count t.records) → IsRunOf (prefix count t) xs
is_run t count log xs all extent run formed =
    record { formed = formed; events = log.events; all = all; run = subst (λ (x : Extent). IsRun (of x log.events) xs) extent run }

pub outcome_of : (t : TraceView) (count : ℕ) (log : LogView) (o : Outcome) → AreAllEvents (take count t.records) log.events → log.extent ≡ observed t → IsRight log o → IsWellFormed (take count t.records) → IsOutcomeOf (prefix count t) o
outcome_of t count log (outcomes.Run xs) all extent right formed = is_run t count log xs.items all extent right formed
outcome_of t count log outcomes.Dead all extent right formed = tt
outcome_of t count log (outcomes.Limit bound) all extent right formed =
    record { formed = formed; events = log.events; all = all; stands = subst (λ (x : Extent). Stands (of x log.events)) extent right }

pub whole : (t : TraceView) (v : Verdict) → IsVerdictOf (prefix (length t.records) t) v → IsVerdictOf t v
whole t v x = subst (λ (rs : List Record). IsVerdictOf (record { base = t.base; size = t.size; block = t.block; records = rs }) v) (take-length t.records) x

pub well_formed : (rs : List Record) → AreFormed rs (length rs) → IsWellFormed rs
well_formed rs formed a r at wrong = formed a (inside rs a r at) (r, at, wrong)
  where
    inside : (rs : List Record) (a : ℕ) (r : Record) → slice_get rs a ≡ Some r → a < length rs
    inside [] a r at = cc
    inside (q ∷ rs) zero r at = omega arith
    inside (q ∷ rs) (suc a) r at = omega (arith, inside rs a r at)

pub formed_if : (o : Option ℕ) (rs : List Record) → is_some o ≡ false → IfNone o (AreFormed rs (length rs)) → AreFormed rs (length rs)
formed_if None rs e formed = formed
formed_if (Some a) rs e formed = cc

pub of_all : (rs : List Record) (P : List Record → Type 0) → P rs → P (take (length rs) rs)
of_all rs P p = subst P (sym (take-length rs)) p

-- ---- the history of a run

abbrev pub RunsAreHistories : Type 0
RunsAreHistories = (t : TraceView) (es : List EventView) → IsWellFormed t.records → AreAllEvents t.records es → Live (record { extent = observed t; events = es }) (start (record { extent = observed t; events = es })) → IsExplainable t

abbrev pub live : (log : LogView) (xs : List Step) → IsRun log xs → Live log (start log)
live log xs run = record { steps = xs; last = run.last; leads = run.leads; over = run.over }

pub explainable : RunsAreHistories → (t : TraceView) (xs : List Step) → IsRunOf t xs → IsExplainable t
explainable law t xs run = law t run.events run.formed run.all (live (of (observed t) run.events) xs run.run)

abbrev pub runs : Outcome → Bool
runs (outcomes.Run xs) = true
runs outcomes.Dead = false
runs (outcomes.Limit bound) = false

pub explainable_if : RunsAreHistories → (t : TraceView) (o : Outcome) → IsOutcomeOf t o → runs o ≡ true → IsExplainable t
explainable_if law t (outcomes.Run xs) x e = explainable law t xs.items x
explainable_if law t outcomes.Dead x e = cc
explainable_if law t (outcomes.Limit bound) x e = cc

pub other_default : {X : Type 0} → (xs : List X) (i : ℕ) (x y : X) → i < length xs → get_or xs i x ≡ get_or xs i y
other_default [] i x y l = absurd (omega arith)
other_default (z ∷ zs) zero x y l = refl
other_default (z ∷ zs) (suc i) x y l = other_default zs i x y (omega arith)

step_at : {X : Type 0} → (xs : List X) (i : ℕ) (x : X) → i < length xs → x ≡ get_or xs i x → take (i + 1) xs ≡ take i xs ++ x ∷ []
step_at xs i x l is = ap (λ k. take k xs) (add-one i) ∙ take-suc xs i x l ∙ ap (λ w. take i xs ++ w ∷ []) (sym is)

history_append : (rs : List Record) (xs ys : List Step) → history_of rs (xs ++ ys) ≡ history_of rs xs ++ history_of rs ys
history_append rs [] ys = refl
history_append rs (steps.Pass ∷ xs) ys = history_append rs xs ys
history_append rs (steps.Act b ∷ xs) ys =
    ap (cons_option (option_and_then submitted (slice_get rs b))) (history_append rs xs ys) ∙ sym (joined (option_and_then submitted (slice_get rs b)))
  where
    joined : (o : Option Entry) → cons_option o (history_of rs xs) ++ history_of rs ys ≡ cons_option o (history_of rs xs ++ history_of rs ys)
    joined None = refl
    joined (Some e) = refl

pub history_more : (rs : List Record) (xs : List Step) (i : ℕ) (x : Step) → i < length xs → x ≡ get_or xs i x → history_of rs (take (i + 1) xs) ≡ history_of rs (take i xs) ++ history_of rs (x ∷ [])
history_more rs xs i x l is = ap (history_of rs) (step_at xs i x l is) ∙ history_append rs (take i xs) (x ∷ [])

-- ---- the n's of a run

-- so many records were passed, and these steps were taken
pub record IsTimed (xs : List Step) (rs now : List Record) (event at : ℕ) : Type 0 where
  pub few : event ≤ at
  pub timed : timed_from 0 xs rs ≡ take event now ++ timed_from (at - event) (drop at xs) (drop event now)

pub timed_start : (xs : List Step) (rs : List Record) → IsTimed xs rs rs 0 0
timed_start xs rs = record { few = omega arith; timed = refl }

nothing_timed : (k : ℕ) (xs : List Step) → timed_from k xs [] ≡ []
nothing_timed k [] = refl
nothing_timed k (steps.Pass ∷ xs) = refl
nothing_timed k (steps.Act b ∷ xs) = nothing_timed (suc k) xs

left_at : {X : Type 0} → (xs : List X) (i : ℕ) (x : X) → i < length xs → x ≡ get_or xs i x → drop i xs ≡ x ∷ drop (i + 1) xs
left_at [] i x l is = absurd (omega arith)
left_at (y ∷ ys) zero x l is = ap (λ z. z ∷ ys) (sym is)
left_at (y ∷ ys) (suc i) x l is = left_at ys i x (omega arith) is ∙ ap (λ n. x ∷ drop n ys) (add-one i) ∙ ap (λ n. x ∷ drop n (y ∷ ys)) (sym (add-one (suc i)))

some_left : {X : Type 0} → (xs : List X) (i : ℕ) (x : X) → slice_get xs i ≡ Some x → drop i xs ≡ x ∷ drop (i + 1) xs
some_left [] i x at = cc
some_left (y ∷ ys) zero x at = ap (λ z. z ∷ ys) (same_Some y x at)
some_left (y ∷ ys) (suc i) x at = some_left ys i x at ∙ ap (λ n. x ∷ drop n ys) (add-one i) ∙ ap (λ n. x ∷ drop n (y ∷ ys)) (sym (add-one (suc i)))

take_set_more : {X : Type 0} → (xs : List X) (i : ℕ) (x y : X) → slice_get xs i ≡ Some x → take (suc i) (set xs i y) ≡ take i xs ++ y ∷ []
take_set_more [] i x y at = cc
take_set_more (z ∷ zs) zero x y at = refl
take_set_more (z ∷ zs) (suc i) x y at = ap (λ ws. z ∷ ws) (take_set_more zs i x y at)

pub record IsPast {X : Type 0} (xs : List X) (i : ℕ) : Type 0 where
  pub none : drop i xs ≡ []
  pub all : take i xs ≡ xs

past : {X : Type 0} → (xs : List X) (i : ℕ) → slice_get xs i ≡ None → IsPast xs i
past [] zero at = record { none = refl; all = refl }
past [] (suc i) at = record { none = refl; all = refl }
past (y ∷ ys) zero at = cc
past (y ∷ ys) (suc i) at = let p = past ys i at in record { none = p.none; all = ap (λ zs. y ∷ zs) p.all }

past_more : {X : Type 0} → (xs : List X) (i : ℕ) → slice_get xs i ≡ None → slice_get xs (suc i) ≡ None
past_more [] i at = refl
past_more (y ∷ ys) zero at = cc
past_more (y ∷ ys) (suc i) at = past_more ys i at

module _ (xs : List Step) (rs now : List Record) (event at : ℕ) (x : Step) (t : IsTimed xs rs now event at) (within : at < length xs) (is : x ≡ get_or xs at x) where
  abbrev ys : List Step
  ys = drop (at + 1) xs

  next_step : drop at xs ≡ x ∷ ys
  next_step = left_at xs at x within is

  pub timed_act : (b : ℕ) → x ≡ steps.Act b → IsTimed xs rs now event (at + 1)
  timed_act b same = record {
    few = omega (arith, t.few);
    timed =
        let count : suc (at - event) ≡ at + 1 - event = omega (arith, t.few) in
        t.timed ∙ ap (λ zs. take event now ++ timed_from (at - event) zs (drop event now)) (next_step ∙ ap (λ z. z ∷ ys) same)
        ∙ ap (λ k. take event now ++ timed_from k ys (drop event now)) count;
  }

  module _ (same : x ≡ steps.Pass) where
    passed_so_far : timed_from 0 xs rs ≡ take event now ++ timed_from (at - event) (steps.Pass ∷ ys) (drop event now)
    passed_so_far = t.timed ∙ ap (λ zs. take event now ++ timed_from (at - event) zs (drop event now)) (next_step ∙ ap (λ z. z ∷ ys) same)

    count : at - event ≡ at + 1 - (event + 1)
    count = omega arith

    timed_some : (r : Record) (new : List Record) → slice_get now event ≡ Some r → new ≡ set now event (with_n (at - event) r) → IsTimed xs rs new (event + 1) (at + 1)
    timed_some r new there e =
        let k = at - event in
        let y = with_n k r in
        let rest = drop (event + 1) now in
        let front : take (event + 1) (set now event y) ≡ take event now ++ y ∷ [] = ap (λ n. take n (set now event y)) (add-one event) ∙ take_set_more now event r y there in
        let back : drop (event + 1) (set now event y) ≡ rest = drop-set-lt (event + 1) now event y (omega arith) in
        record {
          few = omega (arith, t.few);
          timed =
              passed_so_far ∙ ap (λ zs. take event now ++ timed_from k (steps.Pass ∷ ys) zs) (some_left now event r there)
              ∙ sym (append_assoc (take event now) (y ∷ []) (timed_from k ys rest))
              ∙ ap (λ zs. zs ++ timed_from k ys rest) (sym front)
              ∙ ap (λ zs. take (event + 1) (set now event y) ++ timed_from k ys zs) (sym back)
              ∙ ap (λ n. take (event + 1) (set now event y) ++ timed_from n ys (drop (event + 1) (set now event y))) count
              ∙ ap (λ zs. take (event + 1) zs ++ timed_from (at + 1 - (event + 1)) ys (drop (event + 1) zs)) (sym e);
        }

    timed_none : (new : List Record) → slice_get now event ≡ None → new ≡ now → IsTimed xs rs new (event + 1) (at + 1)
    timed_none new there e =
        let here = past now event there in
        let after = past now (suc event) (past_more now event there) in
        record {
          few = omega (arith, t.few);
          timed =
              passed_so_far ∙ ap (λ zs. take event now ++ timed_from (at - event) (steps.Pass ∷ ys) zs) here.none ∙ append-nil (take event now)
              ∙ here.all ∙ sym after.all ∙ ap (λ n. take n now) (sym (add-one event)) ∙ sym (append-nil (take (event + 1) now))
              ∙ ap (λ zs. take (event + 1) now ++ zs) (sym (nothing_timed (at + 1 - (event + 1)) ys))
              ∙ ap (λ zs. take (event + 1) now ++ timed_from (at + 1 - (event + 1)) ys zs) (sym (ap (λ n. drop n now) (add-one event) ∙ after.none))
              ∙ ap (λ zs. take (event + 1) zs ++ timed_from (at + 1 - (event + 1)) ys (drop (event + 1) zs)) (sym e);
        }

    pub timed_pass : (new : List Record) → ((r : Record) → slice_get now event ≡ Some r → new ≡ set now event (with_n (at - event) r)) → (slice_get now event ≡ None → new ≡ now) → IsTimed xs rs new (event + 1) (at + 1)
    timed_pass new some none = by (slice_get now event) refl
      where
        by : (o : Option Record) → slice_get now event ≡ o → IsTimed xs rs new (event + 1) (at + 1)
        by None there = timed_none new there (none there)
        by (Some r) there = timed_some r new there (some r there)

pub timed_end : (xs : List Step) (rs now : List Record) (event at : ℕ) → at ≡ length xs → IsTimed xs rs now event at → now ≡ timed_from 0 xs rs
timed_end xs rs now event at over t =
    sym (t.timed ∙ ap (λ zs. take event now ++ timed_from (at - event) zs (drop event now)) (ap (λ n. drop n xs) over ∙ drop-length xs) ∙ take-append-drop event now)

-- an n that is set changes no history
pub timed_memory : (old new : Claim) (event n : ℕ) → ((r : Record) → slice_get old.records event ≡ Some r → new ≡ record old { records = set old.records event (with_n n r) })
    → (slice_get old.records event ≡ None → new ≡ old) → new.memory ≡ old.memory
timed_memory old new event n some none = by (slice_get old.records event) refl
  where
    by : (o : Option Record) → slice_get old.records event ≡ o → new.memory ≡ old.memory
    by None there = ap (λ (c : Claim). c.memory) (none there)
    by (Some r) there = ap (λ (c : Claim). c.memory) (some r there)

-- ---- the next record

-- records over that memory
abbrev pub over : Extent → List Record → TraceView
over x rs = record { base = x.base; size = x.size; block = x.block; records = rs }

take_one : {X : Type 0} → (xs : List X) (i : ℕ) (x : X) → slice_get xs i ≡ Some x → take (suc i) xs ≡ take i xs ++ x ∷ []
take_one [] i x at = cc
take_one (y ∷ ys) zero x at = ap (λ z. z ∷ []) (same_Some y x at)
take_one (y ∷ ys) (suc i) x at = ap (λ zs. y ∷ zs) (take_one ys i x at)

pub take_more : {X : Type 0} → (xs : List X) (i : ℕ) (x : X) → slice_get xs i ≡ Some x → take (i + 1) xs ≡ take i xs ++ x ∷ []
take_more xs i x at = ap (λ n. take n xs) (add-one i) ∙ take_one xs i x at

inside_none : {X : Type 0} → (xs : List X) (i : ℕ) → i < length xs → slice_get xs i ≡ None → ⊥
inside_none [] i l e = omega arith
inside_none (x ∷ xs) zero l e = cc
inside_none (x ∷ xs) (suc i) l e = inside_none xs i (omega arith) e

pub none_inside : {X : Type 0} → (xs : List X) (i n : ℕ) → i < n → n ≡ length xs → slice_get xs i ≡ None → ⊥
none_inside xs i n l e none = inside_none xs i (omega (arith, l, e)) none

-- ---- what was seen, with these n's and replies

same_record : (r : Record) → IsSeenAs r r
same_record (records.Sub i k op n) = (refl, refl, refl)
same_record (records.Ans i k reply n) = (refl, refl, inr refl)

same_records : (rs : List Record) → AreSeenAs rs rs
same_records [] = tt
same_records (r ∷ rs) = (same_record r, same_records rs)

-- where nothing changes, it is the same that was seen
pub seen_same : (t u : TraceView) → u ≡ t → SeenAlike t u
seen_same t u same = subst (SeenAlike t) (sym same) (record { base = refl; size = refl; block = refl; records = same_records t.records })

answered_record : (e : Entry) (made : Reply) (r u : Record) → IsSeenAs r u → IsSeenAs r (with_answer e made u)
answered_record e made (records.Sub i k op n) (records.Sub j l w m) seen = seen
answered_record e made (records.Sub i k op n) (records.Ans j l reply m) seen = absurd seen
answered_record e made (records.Ans i k told n) (records.Sub j l w m) seen = absurd seen
answered_record e made (records.Ans i k told n) (records.Ans j l replies.Done m) seen = (seen.0, seen.1, inl (elim seen.2 [ inl is ↦ is | inr is ↦ is ]))
answered_record e made (records.Ans i k told n) (records.Ans j l (replies.Data bytes) m) seen = seen
answered_record e made (records.Ans i k told n) (records.Ans j l replies.Unsupported m) seen = seen
answered_record e made (records.Ans i k told n) (records.Ans j l replies.Aborted m) seen = seen

completed_record : (x : Extent) (m : List ℕ) (h : List Entry) (r u : Record) → IsSeenAs r u → IsSeenAs r (completed x m h u)
completed_record x m [] r u seen = seen
completed_record x m (e ∷ h) r u seen =
    let made = answer x.base x.block m e.op in
    completed_record x (after x.base x.block m e.op) h r (with_answer e made u) (answered_record e made r u seen)

completed_records : (x : Extent) (m : List ℕ) (h : List Entry) (rs : List Record) → AreSeenAs rs (map (completed x m h) rs)
completed_records x m h [] = tt
completed_records x m h (r ∷ rs) = (completed_record x m h r r (same_record r), completed_records x m h rs)

-- whatever history gives the replies, it is the same that was seen
pub seen_replied : (t u v : TraceView) (h : List Entry) → u ≡ t → v ≡ with_replies h u → SeenAlike t v
seen_replied t u v h same is =
    subst (SeenAlike t) (sym (is ∙ ap (with_replies h) same))
    (record { base = refl; size = refl; block = refl; records = completed_records (observed t) (replicate t.size 0) h t.records })

-- what was seen with the replies of the run
abbrev pub replied_by : TraceView → List Step → TraceView
replied_by t xs = with_replies (history_of t.records xs) t

module _ (start_claim acted replied now : Claim) (xs : List Step) (run : IsRunOf (seen_by start_claim) xs) (empty : start_claim.memory.entries ≡ []) (seen : seen_by acted ≡ seen_by start_claim)
    (entries : acted.memory.entries ≡ start_claim.memory.entries ++ history_of start_claim.records xs) (memory : replied.memory ≡ acted.memory) (told : seen_by replied ≡ with_replies (history_of acted.records xs) (seen_by acted))
    (timed_is : now ≡ record replied { records = timed_from 0 xs replied.records }) where
  abbrev t : TraceView
  t = seen_by start_claim

  told_is : seen_by replied ≡ replied_by t xs
  told_is = told ∙ ap (λ (v : TraceView). with_replies (history_of v.records xs) v) seen

  entries_are : replied.memory.entries ≡ history_of t.records xs
  entries_are = ap (λ (m : MemoryView). m.entries) memory ∙ entries ∙ ap (λ (h : List Entry). h ++ history_of t.records xs) empty

  run_is : now ≡ claim_of (timed xs (replied_by t xs)) (history_of t.records xs)
  run_is =
      timed_is ∙ ap (λ (v : TraceView). claim_of (timed xs v) replied.memory.entries) told_is
      ∙ ap (λ (h : List Entry). claim_of (timed xs (replied_by t xs)) h) entries_are

  pub run_alike : ((es : List EventView) → IsWellFormed t.records → AreAllEvents t.records es → (run : Live (of (observed t) es) (start (of (observed t) es))) → SeenAlike t (timed run.steps (replied_by t run.steps))) → SeenAlike t (seen_by now)
  run_alike law = subst (λ (c : Claim). SeenAlike t (seen_by c)) (sym run_is) (law run.events run.formed run.all (live (of (observed t) run.events) xs run.run))

  pub run_explains : ((es : List EventView) → IsWellFormed t.records → AreAllEvents t.records es → (run : Live (of (observed t) es) (start (of (observed t) es))) → Explains (claim_of (timed run.steps (replied_by t run.steps)) (history_of t.records run.steps))) → Explains now
  run_explains law = subst Explains (sym run_is) (law run.events run.formed run.all (live (of (observed t) run.events) xs run.run))

  pub run_clocked : ((es : List EventView) → IsWellFormed t.records → AreAllEvents t.records es → (run : Live (of (observed t) es) (start (of (observed t) es))) → IsClocked (claim_of (timed run.steps (replied_by t run.steps)) (history_of t.records run.steps))) → IsClocked now
  run_clocked law = subst IsClocked (sym run_is) (law run.events run.formed run.all (live (of (observed t) run.events) xs run.run))
