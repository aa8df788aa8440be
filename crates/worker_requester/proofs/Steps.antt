-- A submission and an answer keep what a requester's records say.
use Rattle.std.proofs.Common.{◌≡◌, ℕ, zero, suc, ◌+◌, ◌-◌, ◌<◌, ◌≤◌, ◌⊎◌, ◌||◌, ◌&&◌, Bool, true, false, true≢false, cond, eqb, eq-eqb, List, [], ◌∷◌, ◌++◌, length, take, take_all, inl, inr, ⊎_elim, refl, sym, ap, ◌∙◌, subst, add-one, append-nil, arith}
use native.Mathlib.Decide.{ℕ_discrete}
use Rattle.std.specs.Prelude.{Option, Some, None, slice_get, filter_map}
use Rattle.std.specs.List.{list_any, AllByRecursion as Each}
use Rattle.std.proofs.Math.Seq.{take-suc}
use Rattle.std.proofs.lemmas.List.Elements.{filter_map-append}
use Rattle.std.proofs.lemmas.List.{length-append, nil_from_length}
use Rattle.std.proofs.lemmas.Option.{get_or_from_slice_get}
use Rattle.tlp_core.specs.Ops.{Op}
use Rattle.tlp_core.specs.Operation.{is_posted}
use Rattle.seq_memory.specs.Entries.{Reply}
use Rattle.history_words.specs.Records.{Record}
use Rattle.history_words.specs.declared.record.RecordOf.TheVariants as records
use Rattle.history_words.specs.Lookup.{requester_of}
use Rattle.history_words.specs.Trace.{submission, submissions, answers_to}
use Rattle.hall_laws.specs.declared.token.Knowledge.{Knowledge}
use Rattle.hall_laws.specs.Tells.{SubmitTells, CollectTells, SeesTells, Has}
use Rattle.hall_laws.specs.Waiting.{without}
use Rattle.hall_core.specs.Views.{SeatView, IsSeatOf}
use Rattle.worker_requester.specs.declared.requester.Requester.{Requester}
use Rattle.worker_requester.specs.Following.{is_number, waiting_of, AreApart, IsAnswered, Keeps, Follows, Finishes}
use Rattle.worker_requester.proofs.Waits.{any_left, any_right, each_map, each_snoc, each_without, apart_without, apart_more, without_count, any_without}

get_snoc : {A : Type 0} (xs : List A) (x y : A) (k : ℕ) → slice_get (xs ++ x ∷ []) k ≡ Some y → (slice_get xs k ≡ Some y) ⊎ ((k ≡ length xs) × (x ≡ y))
get_snoc [] x y zero e = inr (refl, cc)
get_snoc [] x y (suc k) e = absurd cc
get_snoc (z ∷ zs) x y zero e = inl e
get_snoc (z ∷ zs) x y (suc k) e = ⊎_elim (λ h. inl h) (λ (h : (k ≡ length zs) × (x ≡ y)). inr (ap suc h.0, h.1)) (get_snoc zs x y k e)

-- ---- what a seat that submitted, or collected, knows

record Submits (v : Knowledge) (op : Op) (number n : ℕ) (w : Knowledge) : Type 0 where
  pub numbered : number ≡ length v.made
  pub made : w.made ≡ v.made ++ op ∷ []
  pub pending : w.pending ≡ cond (is_posted op) v.pending (v.pending ++ (number, n) ∷ [])
  pub told : w.records ≡ v.records ++ records.Sub (suc v.number) number op n ∷ []

submits_of : (v w : Knowledge) (op : Op) (number n : ℕ) → SubmitTells v number op n w → Submits v op number n w
submits_of v w op number n s = record { numbered = s.number; made = ap (λ (x : Knowledge). x.made) s.knows; pending = ap (λ (x : Knowledge). x.pending) s.knows; told = ap (λ (x : Knowledge). x.records) s.knows }

record Collects (v : Knowledge) (number : ℕ) (reply : Reply) (n : ℕ) (w : Knowledge) : Type 0 where
  pub since : ℕ
  pub waited : Has (number, since) v.pending
  pub made : w.made ≡ v.made
  pub pending : w.pending ≡ without number v.pending
  pub told : w.records ≡ v.records ++ records.Ans (suc v.number) number reply n ∷ []

collects_of : (v w : Knowledge) (number : ℕ) (reply : Reply) (n : ℕ) → CollectTells v number reply n w → Collects v number reply n w
collects_of v w number reply n c = record { since = c.since; waited = c.waited; made = ap (λ (x : Knowledge). x.made) c.knows; pending = ap (λ (x : Knowledge). x.pending) c.knows; told = ap (λ (x : Knowledge). x.records) c.knows }

-- ---- a submission

submitted_more : (i : ℕ) (op : Op) (number n : ℕ) (rs : List Record) → submissions (rs ++ records.Sub i number op n ∷ []) i ≡ submissions rs i ++ op ∷ []
submitted_more i op number n rs =
    filter_map-append (submission i) rs (records.Sub i number op n ∷ []) ∙ ap (λ l. submissions rs i ++ l) (ap (λ b. filter_map (λ (o : Option Op). o) (cond b (Some op) None ∷ [])) (eq-eqb i i refl))

waits_more : (b : Bool) (p : ℕ × ℕ → Bool) (xs : List (ℕ × ℕ)) (x : ℕ × ℕ) → list_any p xs ≡ true → list_any p (cond b xs (xs ++ x ∷ [])) ≡ true
waits_more true p xs x h = h
waits_more false p xs x h = any_left p xs (x ∷ []) h

apart_asked : (b : Bool) (m n : ℕ) (ps : List (ℕ × ℕ)) → AreApart ps → Each (λ (w : ℕ × ℕ). w.0 < m) ps → AreApart (cond b ps (ps ++ (m, n) ∷ []))
apart_asked true m n ps a h = a
apart_asked false m n ps a h = apart_more m n ps a h

below_asked : (b : Bool) (m n l : ℕ) (ps : List (ℕ × ℕ)) → m < l → Each (λ (w : ℕ × ℕ). w.0 < m) ps → Each (λ (w : ℕ × ℕ). w.0 < l) (cond b ps (ps ++ (m, n) ∷ []))
below_asked true m n l ps u h = each_map (λ (w : ℕ × ℕ). w.0 < m) (λ (w : ℕ × ℕ). w.0 < l) (λ w under. omega arith) ps h
below_asked false m n l ps u h = each_snoc (λ (w : ℕ × ℕ). w.0 < l) ps (m, n) (each_map (λ (w : ℕ × ℕ). w.0 < m) (λ (w : ℕ × ℕ). w.0 < l) (λ w under. omega arith) ps h) u

asks : (i : ℕ) (script : List Op) (v w : Knowledge) (rs : List Record) (next due due' : ℕ) (op : Op) (number n : ℕ) → Keeps i script v.made v.pending rs next due → next < length script
    → slice_get script next ≡ Some op → Submits v op number n w → due' ≡ length w.pending → due' ≤ next + 1 → Keeps i script w.made w.pending (rs ++ records.Sub i number op n ∷ []) (next + 1) due'
asks i script v w rs next due due' op number n keeps more at s waits few =
    let below : Each (λ (x : ℕ × ℕ). x.0 < number) v.pending = subst (λ m. Each (λ (x : ℕ × ℕ). x.0 < m) v.pending) (sym s.numbered) keeps.below in
    let one : number < length w.made = subst (λ (l : List Op). number < length l) (sym s.made) (let numbered = s.numbered in omega (arith, length-append v.made (op ∷ []))) in record {
      submitted = submitted_more i op number n rs ∙ ap (λ l. l ++ op ∷ []) keeps.submitted ∙ sym s.made;
      begun = s.made ∙ ap (λ l. l ++ op ∷ []) keeps.begun ∙ ap (λ x. take next script ++ x ∷ []) (sym (get_or_from_slice_get script next op op at)) ∙ sym (take-suc script next op more) ∙ ap (λ k. take k script) (sym (add-one next));
      inside = omega arith;
      waits = waits;
      few = few;
      apart = subst AreApart (sym s.pending) (apart_asked (is_posted op) number n v.pending keeps.apart below);
      below = subst (λ l. Each (λ (x : ℕ × ℕ). x.0 < length w.made) l) (sym s.pending) (below_asked (is_posted op) number n (length w.made) v.pending one below);
      covered = λ k o there np. ⊎_elim
          (λ (old : slice_get v.made k ≡ Some o). ⊎_elim
          (λ (h : list_any (is_number k) v.pending ≡ true). inl (subst (λ l. list_any (is_number k) l ≡ true) (sym s.pending) (waits_more (is_posted op) (is_number k) v.pending (number, n) h)))
          (λ (h : list_any (answers_to i k) rs ≡ true). inr (any_left (answers_to i k) rs (records.Sub i number op n ∷ []) h))
          (keeps.covered k o old np))
          (λ (new : (k ≡ length v.made) × (op ≡ o)). inl (
          let is : is_posted op ≡ false = ap is_posted new.1 ∙ np in
          let last : w.pending ≡ v.pending ++ (number, n) ∷ [] = s.pending ∙ ap (λ b. cond b v.pending (v.pending ++ (number, n) ∷ [])) is in
          subst (λ l. list_any (is_number k) l ≡ true) (sym last) (any_right (is_number k) v.pending ((number, n) ∷ []) (ap (λ b. b || false) (eq-eqb k number (new.0 ∙ sym s.numbered))))))
          (get_snoc v.made op o k (subst (λ l. slice_get l k ≡ Some o) s.made there));
    }

-- ---- an answer

hears : (i : ℕ) (script : List Op) (v w : Knowledge) (rs : List Record) (next due : ℕ) (number : ℕ) (reply : Reply) (n : ℕ) → Keeps i script v.made v.pending rs next due → Collects v number reply n w
    → Keeps i script w.made w.pending (rs ++ records.Ans i number reply n ∷ []) next (due - 1)
hears i script v w rs next due number reply n keeps a =
    let count : suc (length (without number v.pending)) ≡ length v.pending = without_count number a.since v.pending a.waited keeps.apart in
    let left : length w.pending ≡ length (without number v.pending) = ap length a.pending in
    let waits = keeps.waits in
    let few = keeps.few in record {
      submitted = filter_map-append (submission i) rs (records.Ans i number reply n ∷ []) ∙ append-nil (submissions rs i) ∙ keeps.submitted ∙ sym a.made;
      begun = a.made ∙ keeps.begun;
      inside = keeps.inside;
      waits = omega arith;
      few = omega arith;
      apart = subst AreApart (sym a.pending) (apart_without number v.pending keeps.apart);
      below = subst (λ (y : List Op × List (ℕ × ℕ)). Each (λ (x : ℕ × ℕ). x.0 < length y.0) y.1) (λ j. (sym a.made j, sym a.pending j)) (each_without (λ (x : ℕ × ℕ). x.0 < length v.made) number v.pending keeps.below);
      covered = λ k o there np. ⊎_elim
          (λ (h : list_any (is_number k) v.pending ≡ true). elim (ℕ_discrete k number) as (λ _. (list_any (is_number k) w.pending ≡ true) ⊎ (list_any (answers_to i k) (rs ++ records.Ans i number reply n ∷ []) ≡ true)) [
            | yes e ↦ inr (any_right (answers_to i k) rs (records.Ans i number reply n ∷ []) (ap (λ b. (b && eqb k number) || false) (eq-eqb i i refl) ∙ ap (λ b. b || false) (eq-eqb k number e)))
            | no ne ↦ inl (subst (λ l. list_any (is_number k) l ≡ true) (sym a.pending) (any_without k number v.pending ne h))
          ])
          (λ (h : list_any (answers_to i k) rs ≡ true). inr (any_left (answers_to i k) rs (records.Ans i number reply n ∷ []) h))
          (keeps.covered k o (subst (λ l. slice_get l k ≡ Some o) a.made there) np);
    }

-- ---- a requester's steps

recorded_so_far : (q : Requester) → Follows q → q.waiting ≡ None → Keeps q.number q.script.now q.seat.knows.made q.seat.knows.pending q.pusher.pushed.records q.next q.due
recorded_so_far q f none = subst (λ l. Keeps q.number q.script.now q.seat.knows.made q.seat.knows.pending l q.next q.due) (ap (λ w. q.pusher.pushed.records ++ waiting_of w) none ∙ append-nil q.pusher.pushed.records) f.keeps

-- the records so far are those of the seat
pub recorded_as : (q : Requester) → Follows q → q.waiting ≡ None → q.pusher.pushed.records ≡ q.seat.knows.records
recorded_as q f none = sym (ap (λ w. q.pusher.pushed.records ++ waiting_of w) none ∙ append-nil q.pusher.pushed.records) ∙ f.recorded

due_more : (v w : Knowledge) (op : Op) (number n due : ℕ) → Submits v op number n w → due ≡ length v.pending → is_posted op ≡ false → due + 1 ≡ length w.pending
due_more v w op number n due s e np =
    let last : length w.pending ≡ length (v.pending ++ (number, n) ∷ []) = ap length s.pending ∙ ap (λ b. length (cond b v.pending (v.pending ++ (number, n) ∷ []))) np in
    omega (arith, length-append v.pending ((number, n) ∷ []))

due_same : (v w : Knowledge) (op : Op) (number n due : ℕ) → Submits v op number n w → due ≡ length v.pending → is_posted op ≡ true → due ≡ length w.pending
due_same v w op number n due s e p = e ∙ sym (ap length s.pending ∙ ap (λ b. length (cond b v.pending (v.pending ++ (number, n) ∷ []))) p)

abbrev asked : Requester → SeatView → Op → ℕ → ℕ → ℕ → Requester
asked q w op number n due = record q { seat = w; next = q.next + 1; due = due; waiting = Some (records.Sub q.number number op n) }

same_number : (v w : Knowledge) (op : Op) (number n i : ℕ) → SubmitTells v number op n w → suc v.number ≡ i → suc w.number ≡ i
same_number v w op number n i s e = ap (λ (x : Knowledge). suc x.number) s.knows ∙ e

follows_asked : (q : Requester) (w : SeatView) (op : Op) (number n due : ℕ) → Follows q → q.waiting ≡ None → q.next < length q.script.now → slice_get q.script.now q.next ≡ Some op
    → SubmitTells q.seat.knows number op n w.knows → IsSeatOf q.hall.now w → due ≡ length w.knows.pending → due ≤ q.next + 1 → Follows (asked q w op number n due)
follows_asked q w op number n due f none more at s here waits few = record {
  hall = here;
  queue = f.queue;
  seat = same_number q.seat.knows w.knows op number n q.number s f.seat;
  pusher = f.pusher;
  own = λ r e. let same : records.Sub q.number number op n ≡ r = cc in sym (ap requester_of same);
  keeps = asks q.number q.script.now q.seat.knows w.knows q.pusher.pushed.records q.next q.due due op number n (recorded_so_far q f none) more at (submits_of q.seat.knows w.knows op number n s) waits few;
  recorded = (λ j. recorded_as q f none j ++ records.Sub (sym f.seat j) number op n ∷ []) ∙ sym (submits_of q.seat.knows w.knows op number n s).told;
}

pub follows_open : (q : Requester) (w : SeatView) (op : Op) (number n : ℕ) → Follows q → q.waiting ≡ None → q.next < length q.script.now → slice_get q.script.now q.next ≡ Some op
    → SubmitTells q.seat.knows number op n w.knows → IsSeatOf q.hall.now w → is_posted op ≡ false → Follows (asked q w op number n (q.due + 1))
follows_open q w op number n f none more at s here np =
    let few = f.keeps.few in follows_asked q w op number n (q.due + 1) f none more at s here (due_more q.seat.knows w.knows op number n q.due (submits_of q.seat.knows w.knows op number n s) f.keeps.waits np) (omega arith)

pub follows_posted : (q : Requester) (w : SeatView) (op : Op) (number n : ℕ) → Follows q → q.waiting ≡ None → q.next < length q.script.now → slice_get q.script.now q.next ≡ Some op
    → SubmitTells q.seat.knows number op n w.knows → IsSeatOf q.hall.now w → is_posted op ≡ true → Follows (asked q w op number n q.due)
follows_posted q w op number n f none more at s here p =
    let few = f.keeps.few in follows_asked q w op number n q.due f none more at s here (due_same q.seat.knows w.knows op number n q.due (submits_of q.seat.knows w.knows op number n s) f.keeps.waits p) (omega arith)

pub follows_heard : (q : Requester) (w : SeatView) (number : ℕ) (reply : Reply) (n : ℕ) → Follows q → q.waiting ≡ None → CollectTells q.seat.knows number reply n w.knows → IsSeatOf q.hall.now w
    → Follows (record q { seat = w; due = q.due - 1; waiting = Some (records.Ans q.number number reply n) })
follows_heard q w number reply n f none c here = record {
  hall = here;
  queue = f.queue;
  seat = ap (λ (x : Knowledge). suc x.number) c.knows ∙ f.seat;
  pusher = f.pusher;
  own = λ r e. let same : records.Ans q.number number reply n ≡ r = cc in sym (ap requester_of same);
  keeps = hears q.number q.script.now q.seat.knows w.knows q.pusher.pushed.records q.next q.due number reply n (recorded_so_far q f none) (collects_of q.seat.knows w.knows number reply n c);
  recorded = (λ j. recorded_as q f none j ++ records.Ans (sym f.seat j) number reply n ∷ []) ∙ sym (collects_of q.seat.knows w.knows number reply n c).told;
}

-- where nothing had arrived
pub follows_seen : (q : Requester) (w : SeatView) → Follows q → SeesTells q.seat.knows w.knows → IsSeatOf q.hall.now w → Follows (record q { seat = w })
follows_seen q w f s here = record {
  hall = here;
  queue = f.queue;
  seat = ap (λ (x : Knowledge). suc x.number) s.knows ∙ f.seat;
  pusher = f.pusher;
  own = f.own;
  keeps = subst (λ (x : Knowledge). Keeps q.number q.script.now x.made x.pending (q.pusher.pushed.records ++ waiting_of q.waiting) q.next q.due) (sym s.knows) f.keeps;
  recorded = f.recorded ∙ sym (ap (λ (x : Knowledge). x.records) s.knows);
}

-- at the end all is recorded
pub finishes : (q : Requester) → Follows q → q.waiting ≡ None → q.next ≡ length q.script.now → q.due ≡ 0 → Finishes q.script.now q.pusher.pushed
finishes q f none all over =
    let k = recorded_so_far q f none in
    let made : q.seat.knows.made ≡ q.script.now = k.begun ∙ ap (λ n. take n q.script.now) all ∙ take_all (length q.script.now) q.script.now (omega arith) in
    let empty : q.seat.knows.pending ≡ [] = nil_from_length q.seat.knows.pending (sym k.waits ∙ over) in record {
      submitted = ap (λ i. submissions q.pusher.pushed.records i) f.pusher ∙ k.submitted ∙ made;
      answered = subst (λ i. IsAnswered i q.script.now q.pusher.pushed.records) (sym f.pusher)
          (λ j op at np. ⊎_elim (λ (h : list_any (is_number j) q.seat.knows.pending ≡ true). absurd (true≢false (sym h ∙ ap (list_any (is_number j)) empty))) (λ h. h)
          (k.covered j op (subst (λ l. slice_get l j ≡ Some op) (sym made) at) np));
    }
