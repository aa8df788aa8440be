-- The threads of the shares, one after the other.
use Rattle.std.proofs.Common.{◌≡◌, ◌≤◌, ◌<◌, ◌+◌, ◌-◌, ◌∙◌, ℕ, Option, Some, Vec, Global, List, [], ◌∷◌, ◌++◌, length, map, take, get_or, sym, ap, subst, add-one, arith}
use Rattle.std.proofs.Math.Seq.{take-suc}
use Rattle.std.specs.List.{flat_map}
use Rattle.std.proofs.lemmas.List.{map-append, length-append}
use Rattle.std.proofs.lemmas.List.Folds.{flat_map-map, length-flat_map-take}
use Rattle.hall_core.specs.Views.{SeatView, HallView, IsSeatOf}
use Rattle.workers.specs.Tasks.{TaskView, kept_of}
use Rattle.workers.specs.Running.{AreWorkSeats, AreOfHall}
use Rattle.workers.specs.declared.jobs.Job.{Job}
use Rattle.workers.proofs.Dealing.{all_more}
use Rattle.workers.proofs.Returning.{Handle}

abbrev pub jobs_in : Vec Job Global → List Job
jobs_in v = v.items

-- the last of some seats
pub last_seat : (hall : HallView) (ss : List SeatView) (o : Option SeatView) (s : SeatView) (n : ℕ) → AreWorkSeats hall ss → n ≡ length ss → 0 < n → ((d : SeatView) → 0 < n → o ≡ Some (get_or ss (n - 1) d)) → o ≡ Some s → IsSeatOf hall s
last_seat hall ss o s n all count some value is = subst (IsSeatOf hall) (same_some (get_or ss (n - 1) s) s (sym (value s some) ∙ is)) (all (n - 1) s (omega arith))
  where
    same_some : (a b : SeatView) → Some a ≡ Some b → a ≡ b
    same_some a b e = cc

-- the jobs of the first so many shares
abbrev pub first_jobs : ℕ → List (Vec Job Global) → List Job
first_jobs i xs = flat_map (λ s. s) (map jobs_in (take i xs))

pub next_share : (xs : List (Vec Job Global)) (i : ℕ) (v : Vec Job Global) → i < length xs → v ≡ get_or xs i v → map jobs_in (take (i + 1) xs) ≡ map jobs_in (take i xs) ++ v.items ∷ []
next_share xs i v below is =
    ap (map jobs_in) (ap (λ k. take k xs) (add-one i) ∙ take-suc xs i v below ∙ ap (λ (x : Vec Job Global). take i xs ++ x ∷ []) (sym is)) ∙ map-append jobs_in (take i xs) (v ∷ [])

pub next_count : (xs : List (Vec Job Global)) (i : ℕ) (v : Vec Job Global) → i < length xs → v ≡ get_or xs i v → length (first_jobs (i + 1) xs) ≡ length (first_jobs i xs) + length v.items
next_count xs i v below is =
    ap (λ ls. length (flat_map (λ s. s) ls)) (next_share xs i v below is) ∙ ap length (all_more (map jobs_in (take i xs)) v.items) ∙ length-append (first_jobs i xs) v.items

pub next_fits : (xs : List (Vec Job Global)) (i : ℕ) (v : Vec Job Global) → i < length xs → v ≡ get_or xs i v → length (first_jobs i xs) + length v.items ≤ length (flat_map (λ s. s) (map jobs_in xs))
next_fits xs i v below is =
    let fits = length-flat_map-take jobs_in xs i v below in
    let first : length (first_jobs i xs) ≡ length (flat_map jobs_in (take i xs)) = ap length (flat_map-map (λ s. s) jobs_in (take i xs)) in
    let all : length (flat_map (λ s. s) (map jobs_in xs)) ≡ length (flat_map jobs_in xs) = ap length (flat_map-map (λ s. s) jobs_in xs) in
    let own : length v.items ≡ length (get_or xs i v).items = ap (λ (x : Vec Job Global). length x.items) is in
    omega (arith, fits, first, all, own)

-- the jobs of the threads, of which one more was started
pub promised_more : (hs : List Handle) (h : Handle) (ls : List (List Job)) (l : List Job) → map (λ t. t.promise.jobs.now) hs ≡ ls → h.promise.jobs.now ≡ l → map (λ t. t.promise.jobs.now) (hs ++ h ∷ []) ≡ ls ++ l ∷ []
promised_more hs h ls l old is = map-append (λ (t : Handle). t.promise.jobs.now) hs (h ∷ []) ∙ (λ j. old j ++ is j ∷ [])

pub of_hall_more : (hall : HallView) (hs : List Handle) (h : Handle) → AreOfHall hall hs → h.promise.hall.now ≡ hall → AreOfHall hall (hs ++ h ∷ [])
of_hall_more hall [] h old is = (is, tt)
of_hall_more hall (k ∷ ks) h old is = (old.0, of_hall_more hall ks h old.1 is)

-- the tasks, of which one more was made
pub tasks_more : (hall : HallView) (js : List Job) (i : ℕ) (ts : List TaskView) (t : TaskView) → map kept_of ts ≡ map (λ j. (j, hall)) (take i js) → i < length js → t.job ≡ get_or js i t.job → t.hall ≡ hall
    → map kept_of (ts ++ t ∷ []) ≡ map (λ j. (j, hall)) (take (i + 1) js)
tasks_more hall js i ts t old below here of =
    let one : Job → Job × HallView = λ j. (j, hall) in
    let more : take (i + 1) js ≡ take i js ++ get_or js i t.job ∷ [] = ap (λ k. take k js) (add-one i) ∙ take-suc js i t.job below in
    map-append kept_of ts (t ∷ []) ∙ (λ x. old x ++ (here x, of x) ∷ []) ∙ sym (ap (map one) more ∙ map-append one (take i js) (get_or js i t.job ∷ []))
