-- Seats, threads and records in the order of their requesters.
use Rattle.std.proofs.Math.Seq.{take-suc, drop-cons}
use Rattle.std.proofs.lemmas.List.{map-append, length-append, length-map, length-take-le}
use Rattle.std.proofs.Common.{◌≡◌, ◌≢◌, ℕ, zero, suc, ◌+◌, ◌-◌, ◌*◌, ◌<◌, add-zero, true≢false, eq-eqb, Vec, Global, Bool, true, false, cond, eqb, ◌&&◌, ◌||◌, List, [], ◌∷◌, ◌++◌, length, map, take, drop, get_or, refl, add-one, subst, ◌∙◌, sym, ap, arith}
use Rattle.std.specs.Prelude.{remove, Option, Some, None, IfNone, slice_get}
use Rattle.std.specs.declared.thread.PromisedHandle.{PromisedHandle}
use Rattle.std.specs.List.{AllByRecursion as Each, list_any, cons_option}
use Rattle.atomic_table.specs.Seated.{TableId}
use Rattle.tlp_core.specs.Ops.{Op}
use Rattle.history_words.specs.Records.{Record}
use Rattle.history_words.specs.declared.record.RecordOf.TheVariants as records
use Rattle.history_words.specs.Lookup.{requester_of}
use Rattle.history_words.specs.Trace.{submission, submissions, answers_to}
use Rattle.hall_laws.specs.Rule.{newcomer}
use Rattle.hall_core.specs.Views.{SeatView, HallView, IsSeatOf, AreSeatsOf}
use Rattle.recorder.specs.declared.laws.Pushed.{Pushed}
use Rattle.recorder.specs.declared.laws.Taken.{Taken}
use Rattle.recorder.specs.Rule.{records_by, unbegun, IsWhole}
use Rattle.worker_requester.specs.declared.requester.Ended.{Ended}
use Rattle.workers.specs.declared.threads.Keeps.{Keeps}
use Rattle.worker_requester.specs.Following.{IsUnusedSeat, Finishes}
use Rattle.fabric_steps.specs.declared.event.LaneName.TheVariants as lanes
use Rattle.workers.specs.declared.jobs.Job.TheVariants as jobs
use Rattle.workers.specs.Jobs.{lane_jobs, port_jobs, jobs_of}
use Rattle.worker_report.specs.OneRun.{AreBelow, AreOfSeats}
use Rattle.workers.specs.Running.{AreUnusedSeats, AreSeats, AreHandles, AreFinished, AreRecorded, AreDone}

pub if_none : {X : Type 0} (o : Option X) (P : Type 0) → ((x : X) → o ≡ Some x → ⊥) → IfNone o P → P
if_none None P none h = h
if_none (Some x) P none h = absurd (none x refl)

pub seats_next : (hall : HallView) (i : ℕ) (ss : List SeatView) → AreUnusedSeats hall i ss → 0 < length ss → AreUnusedSeats hall (i + 1) (remove ss 0)
seats_next hall i [] h some = absurd (omega arith)
seats_next hall i (s ∷ ss) h some = h.1

pub seats_first : (hall : HallView) (i : ℕ) (ss : List SeatView) (s : SeatView) → AreUnusedSeats hall i ss → 0 < length ss → s ≡ get_or ss 0 s → IsUnusedSeat hall i s
seats_first hall i [] s h some is = absurd (omega arith)
seats_first hall i (t ∷ ts) s h some is = subst (IsUnusedSeat hall i) (sym is) h.0

pub seats_of : (hall : HallView) (ss : List SeatView) → AreSeats hall ss → AreSeatsOf hall ss
seats_of hall [] h i s at = let no : ⊥ = cc in absurd no
seats_of hall (t ∷ ts) h zero s at = let same : t ≡ s = cc in subst (IsSeatOf hall) same h.0
seats_of hall (t ∷ ts) h (suc i) s at = seats_of hall ts h.1 i s at

-- the seats of a new hall
pub new_seats : (hall : HallView) (n : ℕ) (ss : List SeatView) → ((i : ℕ) (s : SeatView) → slice_get ss i ≡ Some s → (s.table_id ≡ hall.table_id) × (s.knows ≡ (newcomer hall.config hall.opened hall.seats (n + i)).knows)) → AreUnusedSeats hall (suc n) ss
new_seats hall n [] each = tt
new_seats hall n (s ∷ ss) each =
    let mine = each 0 s refl in
    let is : s.knows ≡ (newcomer hall.config hall.opened hall.seats n).knows = mine.1 ∙ ap (λ m. (newcomer hall.config hall.opened hall.seats m).knows) (omega arith) in (
      record { seat = (mine.0, ap (λ k. k.config) is, ap (λ k. k.opened) is, ap (λ k. k.seats) is); number = ap (λ k. suc k.number) is; made = ap (λ k. k.made) is; pending = ap (λ k. k.pending) is; records = ap (λ k. k.records) is },
      subst (λ m. AreUnusedSeats hall m ss) (omega arith) (new_seats hall (suc n) ss (λ i t at. let one = each (suc i) t at in (one.0, one.1 ∙ ap (λ m. (newcomer hall.config hall.opened hall.seats m).knows) (omega arith)))),
    )

pub handles_more : (hall : HallView) (queue : TableId) (i : ℕ) (ss : List (List Op)) (hs : List (PromisedHandle Ended Keeps)) (s : List Op) (h : PromisedHandle Ended Keeps) → AreHandles hall queue i ss hs
    → h.promise.hall.now ≡ hall → h.promise.recorder.now ≡ queue → h.promise.script.now ≡ s → h.promise.requester ≡ i + length ss → AreHandles hall queue i (ss ++ s ∷ []) (hs ++ h ∷ [])
handles_more hall queue i [] [] s h old a b c d = (a, b, c, (omega arith), tt)
handles_more hall queue i [] (k ∷ ks) s h old a b c d = absurd old
handles_more hall queue i (t ∷ ts) [] s h old a b c d = absurd old
handles_more hall queue i (t ∷ ts) (k ∷ ks) s h old a b c d = (old.0, old.1, old.2, old.3, handles_more hall queue (i + 1) ts ks s h old.4 a b c (omega arith))

abbrev pub items_of : Vec Op Global → List Op
items_of v = v.items

pub handles_step : (hall : HallView) (queue : TableId) (xs : List (Vec Op Global)) (i : ℕ) (hs : List (PromisedHandle Ended Keeps)) (v : Vec Op Global) (h : PromisedHandle Ended Keeps)
    → AreHandles hall queue 1 (map items_of (take i xs)) hs → i < length xs → v ≡ get_or xs i v
    → h.promise.hall.now ≡ hall → h.promise.recorder.now ≡ queue → h.promise.script.now ≡ v.items → h.promise.requester ≡ i + 1 → AreHandles hall queue 1 (map items_of (take (i + 1) xs)) (hs ++ h ∷ [])
handles_step hall queue xs i hs v h old below is a b c d =
    let more : take (i + 1) xs ≡ take i xs ++ v ∷ [] = ap (λ k. take k xs) (add-one i) ∙ take-suc xs i v below ∙ ap (λ (x : Vec Op Global). take i xs ++ x ∷ []) (sym is) in
    let shown : map items_of (take (i + 1) xs) ≡ map items_of (take i xs) ++ v.items ∷ [] = ap (map items_of) more ∙ map-append items_of (take i xs) (v ∷ []) in
    let count : length (map items_of (take i xs)) ≡ i = length-map (take i xs) items_of ∙ length-take-le i xs (omega arith) in
    subst (λ l. AreHandles hall queue 1 l (hs ++ h ∷ [])) (sym shown) (handles_more hall queue 1 (map items_of (take i xs)) hs v.items h old a b c (omega arith))

pub seats_more : (hall : HallView) (ss : List SeatView) (s : SeatView) → AreSeats hall ss → IsSeatOf hall s → AreSeats hall (ss ++ s ∷ [])
seats_more hall [] s old e = (e, tt)
seats_more hall (t ∷ ts) s old e = (old.0, seats_more hall ts s old.1 e)

-- of the first thread, and of those behind it
pub record Split (hall : HallView) (queue : TableId) (i : ℕ) (s : List Op) (ss : List (List Op)) (h : PromisedHandle Ended Keeps) (hs : List (PromisedHandle Ended Keeps)) : Type 0 where
  pub hall_is : h.promise.hall.now ≡ hall
  pub queue_is : h.promise.recorder.now ≡ queue
  pub script_is : h.promise.script.now ≡ s
  pub requester_is : h.promise.requester ≡ i
  pub others : AreHandles hall queue (i + 1) ss hs

split : (hall : HallView) (queue : TableId) (i : ℕ) (s : List Op) (ss : List (List Op)) (hs : List (PromisedHandle Ended Keeps)) (h : PromisedHandle Ended Keeps) → AreHandles hall queue i (s ∷ ss) hs → h ≡ get_or hs 0 h
    → Split hall queue i s ss h (remove hs 0)
split hall queue i s ss [] h old is = absurd old
split hall queue i s ss (k ∷ ks) h old is = subst (λ (x : PromisedHandle Ended Keeps). Split hall queue i s ss x ks) (sym is) (record { hall_is = old.0; queue_is = old.1; script_is = old.2; requester_is = old.3; others = old.4 })

pub split_at : (hall : HallView) (queue : TableId) (xs : List (Vec Op Global)) (i : ℕ) (v : Vec Op Global) (hs : List (PromisedHandle Ended Keeps)) (h : PromisedHandle Ended Keeps)
    → AreHandles hall queue (i + 1) (map items_of (drop i xs)) hs → i < length xs → v ≡ get_or xs i v → h ≡ get_or hs 0 h → Split hall queue (i + 1) v.items (map items_of (drop (i + 1) xs)) h (remove hs 0)
split_at hall queue xs i v hs h old below here is =
    let cut : drop i xs ≡ v ∷ drop (i + 1) xs = drop-cons xs i v below ∙ (λ j. sym here j ∷ drop (sym (add-one i) j) xs) in
    split hall queue (i + 1) v.items (map items_of (drop (i + 1) xs)) hs h (subst (λ l. AreHandles hall queue (i + 1) (map items_of l) hs) cut old) is

finished_more : (i : ℕ) (ss : List (List Op)) (ps : List Pushed) (s : List Op) (p : Pushed) → AreFinished i ss ps → p.requester ≡ i + length ss → Finishes s p → AreFinished i (ss ++ s ∷ []) (ps ++ p ∷ [])
finished_more i [] [] s p old e f = ((omega arith), f, tt)
finished_more i [] (q ∷ qs) s p old e f = absurd old
finished_more i (t ∷ ts) [] s p old e f = absurd old
finished_more i (t ∷ ts) (q ∷ qs) s p old e f = (old.0, old.1, finished_more (i + 1) ts qs s p old.2 (omega arith) f)

pub finished_step : (xs : List (Vec Op Global)) (i : ℕ) (v : Vec Op Global) (ps : List Pushed) (p : Pushed) → AreFinished 1 (map items_of (take i xs)) ps → i < length xs → v ≡ get_or xs i v → p.requester ≡ i + 1 → Finishes v.items p
    → AreFinished 1 (map items_of (take (i + 1) xs)) (ps ++ p ∷ [])
finished_step xs i v ps p old below is e f =
    let more : take (i + 1) xs ≡ take i xs ++ v ∷ [] = ap (λ k. take k xs) (add-one i) ∙ take-suc xs i v below ∙ ap (λ (x : Vec Op Global). take i xs ++ x ∷ []) (sym is) in
    let shown : map items_of (take (i + 1) xs) ≡ map items_of (take i xs) ++ v.items ∷ [] = ap (map items_of) more ∙ map-append items_of (take i xs) (v ∷ []) in
    let count : length (map items_of (take i xs)) ≡ i = length-map (take i xs) items_of ∙ length-take-le i xs (omega arith) in
    subst (λ l. AreFinished 1 l (ps ++ p ∷ [])) (sym shown) (finished_more 1 (map items_of (take i xs)) ps v.items p old (omega arith) f)

pub recorded_more : (i : ℕ) (vs : List SeatView) (ps : List Pushed) (v : SeatView) (p : Pushed) → AreRecorded i vs ps → p.requester ≡ i + length vs → suc v.knows.number ≡ i + length vs → p.records ≡ v.knows.records
    → AreRecorded i (vs ++ v ∷ []) (ps ++ p ∷ [])
recorded_more i [] [] v p old e n r = ((omega arith), (omega arith), r, tt)
recorded_more i [] (q ∷ qs) v p old e n r = absurd old
recorded_more i (u ∷ us) [] v p old e n r = absurd old
recorded_more i (u ∷ us) (q ∷ qs) v p old e n r = (old.0, old.1, old.2, recorded_more (i + 1) us qs v p old.3 (omega arith) (omega arith) r)

pub handles_length : (hall : HallView) (queue : TableId) (i : ℕ) (ss : List (List Op)) (hs : List (PromisedHandle Ended Keeps)) → AreHandles hall queue i ss hs → length hs ≡ length ss
handles_length hall queue i [] [] old = refl
handles_length hall queue i [] (h ∷ hs) old = absurd old
handles_length hall queue i (s ∷ ss) [] old = absurd old
handles_length hall queue i (s ∷ ss) (h ∷ hs) old = ap suc (handles_length hall queue (i + 1) ss hs old.4)

-- ---- what the checker took is what the requesters pushed

-- a record of another requester submits nothing of this one, and answers nothing of it
nothing_of : (i : ℕ) (r : Record) → eqb i (requester_of r) ≡ false → submission i r ≡ None
nothing_of i (records.Sub j k op n) e = ap (λ b. cond b (Some op) None) e
nothing_of i (records.Ans j k reply n) e = refl

no_answer_of : (i k : ℕ) (r : Record) → eqb i (requester_of r) ≡ false → answers_to i k r ≡ false
no_answer_of i k (records.Sub j m op n) e = refl
no_answer_of i k (records.Ans j m reply n) e = ap (λ b. b && eqb k m) e

submissions_by_at : (i : ℕ) (r : Record) (rs : List Record) (b : Bool) → eqb i (requester_of r) ≡ b → submissions (records_by i rs) i ≡ submissions rs i → submissions (cond b (r ∷ records_by i rs) (records_by i rs)) i ≡ submissions (r ∷ rs) i
submissions_by_at i r rs true e h = ap (λ l. cons_option (submission i r) l) h
submissions_by_at i r rs false e h = h ∙ ap (λ o. cons_option o (submissions rs i)) (sym (nothing_of i r e))

submissions_by : (i : ℕ) (rs : List Record) → submissions (records_by i rs) i ≡ submissions rs i
submissions_by i [] = refl
submissions_by i (r ∷ rs) = submissions_by_at i r rs (eqb i (requester_of r)) refl (submissions_by i rs)

answers_by_at : (i k : ℕ) (r : Record) (rs : List Record) (b : Bool) → eqb i (requester_of r) ≡ b → list_any (answers_to i k) (records_by i rs) ≡ list_any (answers_to i k) rs
    → list_any (answers_to i k) (cond b (r ∷ records_by i rs) (records_by i rs)) ≡ list_any (answers_to i k) (r ∷ rs)
answers_by_at i k r rs true e h = ap (λ b. answers_to i k r || b) h
answers_by_at i k r rs false e h = h ∙ ap (λ b. b || list_any (answers_to i k) rs) (sym (no_answer_of i k r e))

answers_by : (i k : ℕ) (rs : List Record) → list_any (answers_to i k) (records_by i rs) ≡ list_any (answers_to i k) rs
answers_by i k [] = refl
answers_by i k (r ∷ rs) = answers_by_at i k r rs (eqb i (requester_of r)) refl (answers_by i k rs)

-- ---- no record is of a requester who never began

each_map : {A : Type 0} (P Q : A → Type 0) → ((x : A) → P x → Q x) → (xs : List A) → Each P xs → Each Q xs
each_map P Q f [] h = tt
each_map P Q f (x ∷ xs) h = (f x h.0, each_map P Q f xs h.1)

none_by_at : (i : ℕ) (r : Record) (rs : List Record) (b : Bool) → eqb i (requester_of r) ≡ b → cond b (r ∷ records_by i rs) (records_by i rs) ≡ [] → (requester_of r ≢ i) × (records_by i rs ≡ [])
none_by_at i r rs true e none = let count : suc (length (records_by i rs)) ≡ 0 = ap length none in absurd (omega arith)
none_by_at i r rs false e none = ((λ same. true≢false (sym (eq-eqb i (requester_of r) (sym same)) ∙ e)), none)

none_by : (i : ℕ) (rs : List Record) → records_by i rs ≡ [] → Each (λ r. requester_of r ≢ i) rs
none_by i [] none = tt
none_by i (r ∷ rs) none = let h = none_by_at i r rs (eqb i (requester_of r)) refl none in (h.0, none_by i rs h.1)

less : (i : ℕ) (rs : List Record) → AreBelow (i + 1) rs → Each (λ r. requester_of r ≢ i) rs → AreBelow i rs
less i [] below none = tt
less i (r ∷ rs) below none = let not = none.0 in ((below.0.0, omega arith), less i rs below.1 none.1)

-- no record of the requesters from i on, who are so many
below_unbegun : (n i : ℕ) (rs : List Record) → Each (λ p. records_by p.requester rs ≡ p.records) (unbegun n i) → AreBelow (i + n) rs → AreBelow i rs
below_unbegun zero i rs none below = subst (λ k. AreBelow k rs) (add-zero i) below
below_unbegun (suc n) i rs none below =
    less i rs (below_unbegun n (i + 1) rs none.1 (subst (λ k. AreBelow k rs) (omega arith) below)) (none_by i rs none.0)

done_of : (rs : List Record) (i : ℕ) (ss : List (List Op)) (ps : List Pushed) → AreFinished i ss ps → Each (λ p. records_by p.requester rs ≡ p.records) ps → AreBelow (i + length ss) rs → AreDone rs i ss
done_of rs i [] [] f h below = subst (λ k. AreBelow k rs) (add-zero i) below
done_of rs i [] (p ∷ ps) f h below = absurd f
done_of rs i (s ∷ ss) [] f h below = absurd f
done_of rs i (s ∷ ss) (p ∷ ps) f h below =
    let mine : records_by i rs ≡ p.records = ap (λ k. records_by k rs) (sym f.0) ∙ h.0 in (
      sym (submissions_by i rs) ∙ ap (λ l. submissions l i) mine ∙ ap (λ k. submissions p.records k) (sym f.0) ∙ f.1.submitted,
      λ k op at np. sym (answers_by i k rs) ∙ ap (list_any (answers_to i k)) mine ∙ ap (λ j. list_any (answers_to j k) p.records) (sym f.0) ∙ f.1.answered k op at np,
      done_of rs (i + 1) ss ps f.2 h.1 (subst (λ k. AreBelow k rs) (omega arith) below),
    )

each_behind : {A : Type 0} (P : A → Type 0) (xs ys : List A) → Each P (xs ++ ys) → Each P ys
each_behind P [] ys h = h
each_behind P (x ∷ xs) ys h = each_behind P xs ys h.1

each_before : {A : Type 0} (P : A → Type 0) (xs ys : List A) → Each P (xs ++ ys) → Each P xs
each_before P [] ys h = tt
each_before P (x ∷ xs) ys h = (h.0, each_before P xs ys h.1)

of_seats : (rs : List Record) (i : ℕ) (vs : List SeatView) (ps : List Pushed) → AreRecorded i vs ps → Each (λ p. records_by p.requester rs ≡ p.records) ps → AreBelow (i + length vs) rs → AreOfSeats rs i vs
of_seats rs i [] [] r h below = subst (λ k. AreBelow k rs) (add-zero i) below
of_seats rs i [] (p ∷ ps) r h below = absurd r
of_seats rs i (v ∷ vs) [] r h below = absurd r
of_seats rs i (v ∷ vs) (p ∷ ps) r h below =
    (r.1, ap (λ k. records_by k rs) (sym r.0) ∙ h.0 ∙ r.2, of_seats rs (i + 1) vs ps r.3 h.1 (subst (λ k. AreBelow k rs) (omega arith) below))

-- all that some requesters pushed was taken, and nothing of others
record IsTaken (rs : List Record) (n : ℕ) (pushed : List Pushed) : Type 0 where
  pub each : Each (λ p. records_by p.requester rs ≡ p.records) pushed
  pub below : AreBelow (1 + n) rs

is_taken : (t : Taken) (rs : List Record) (n : ℕ) (before pushed : List Pushed) → IsWhole t → t.records ≡ rs → t.known ≡ before ++ pushed → before ≡ unbegun (7 - n) (n + 1) → n < 8 → IsTaken rs n pushed
is_taken t rs n before pushed whole is known unbegun_is few =
    let P : Pushed → Type 0 = λ p. records_by p.requester t.records ≡ p.records in
    let all : Each P (before ++ pushed) = subst (Each P) known whole.0 in
    let others : Each P (unbegun (7 - n) (n + 1)) = subst (Each P) unbegun_is (each_before P before pushed all) in
    let within : AreBelow (n + 1 + (7 - n)) t.records = subst (λ k. AreBelow k t.records) (omega arith) whole.1 in
    let below : AreBelow (1 + n) t.records = subst (λ k. AreBelow k t.records) (omega arith) (below_unbegun (7 - n) (n + 1) t.records others within) in
    subst (λ l. IsTaken l n pushed) is (record { each = each_behind P before pushed all; below = below })

pub done : (t : Taken) (rs : List Record) (ss : List (List Op)) (before pushed : List Pushed) → IsWhole t → t.records ≡ rs → t.known ≡ before ++ pushed → before ≡ unbegun (7 - length ss) (length ss + 1) → length ss < 8 → AreFinished 1 ss pushed → AreDone rs 1 ss
done t rs ss before pushed whole is known unbegun_is few f =
    let taken = is_taken t rs (length ss) before pushed whole is known unbegun_is few in done_of rs 1 ss pushed f taken.each taken.below

pub recorded : (t : Taken) (rs : List Record) (vs : List SeatView) (before pushed : List Pushed) → IsWhole t → t.records ≡ rs → t.known ≡ before ++ pushed → before ≡ unbegun (7 - length vs) (length vs + 1) → length vs < 8 → AreRecorded 1 vs pushed
    → AreOfSeats rs 1 vs
recorded t rs vs before pushed whole is known unbegun_is few r =
    let taken = is_taken t rs (length vs) before pushed whole is known unbegun_is few in of_seats rs 1 vs pushed r taken.each taken.below

-- ---- the jobs

pub port_jobs_count : (n : ℕ) → length (port_jobs n) ≡ 4 * n
port_jobs_count zero = refl
port_jobs_count (suc n) = length-append (port_jobs n) (lane_jobs (lanes.Up (suc n)) ++ lane_jobs (lanes.Down (suc n))) ∙ ap (λ k. k + 4) (port_jobs_count n) ∙ omega arith

pub jobs_count : (n : ℕ) → length (jobs_of n) ≡ 4 * n + 6
jobs_count n = length-append (port_jobs n) (lane_jobs lanes.Inward ++ (lane_jobs lanes.Outward ++ jobs.Switch ∷ jobs.Completer ∷ [])) ∙ ap (λ k. k + 6) (port_jobs_count n)
