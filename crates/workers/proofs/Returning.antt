-- The seats that the workers of the shares give back.
use Rattle.std.proofs.Common.{◌≡◌, ◌∙◌, ℕ, zero, suc, ◌+◌, ◌<◌, Vec, Global, List, [], ◌∷◌, length, map, get_or, refl, sym, ap, arith}
use Rattle.std.specs.Prelude.{remove, slice_index_or, slice_set}
use Rattle.std.specs.List.{flat_map}
use Rattle.std.specs.declared.thread.PromisedHandle.{PromisedHandle}
use Rattle.std.proofs.lemmas.List.{length-append, length-map}
use Rattle.hall_core.specs.Views.{HallView}
use Rattle.workers.specs.declared.jobs.Job.{Job}
use Rattle.workers.specs.declared.threads.Share.{Share}
use Rattle.workers.specs.Tasks.{TaskView, AreWorkersOf, AreTasks, kept_of}
use Rattle.workers.specs.Running.{AreOfHall}

abbrev pub Handle : Type 0
Handle = PromisedHandle (Vec TaskView Global) Share

-- how many jobs the threads have
abbrev pub jobs_with : List Handle → ℕ
jobs_with [] = 0
jobs_with (h ∷ hs) = length h.promise.jobs.now + jobs_with hs

pub all_jobs_with : (hs : List Handle) → length (flat_map (λ s. s) (map (λ (h : Handle). h.promise.jobs.now) hs)) ≡ jobs_with hs
all_jobs_with [] = refl
all_jobs_with (h ∷ hs) = length-append h.promise.jobs.now (flat_map (λ s. s) (map (λ (x : Handle). x.promise.jobs.now) hs)) ∙ ap (λ n. length h.promise.jobs.now + n) (all_jobs_with hs)

pub none_with : (hs : List Handle) → length hs ≡ 0 → jobs_with hs ≡ 0
none_with [] none = refl
none_with (h ∷ hs) none = absurd (omega arith)

-- ---- the workers of a thread

pub first_worker : (hall : HallView) (ts : List TaskView) (t : TaskView) → AreWorkersOf hall ts → 0 < length ts → t ≡ get_or ts 0 t → (t.hall ≡ hall) × AreWorkersOf hall (remove ts 0)
first_worker hall [] t all some is = absurd (omega arith)
first_worker hall (u ∷ us) t all some is = (ap (λ (x : TaskView). x.hall) is ∙ all.0, all.1)

pub tasks_count : (hall : HallView) (js : List Job) (ts : List TaskView) → AreTasks hall js ts → length ts ≡ length js
tasks_count hall js ts all = sym (length-map ts kept_of) ∙ ap length all ∙ length-map js (λ j. (j, hall))

pub tasks_of_hall : (hall : HallView) (js : List Job) (ts : List TaskView) → AreTasks hall js ts → AreWorkersOf hall ts
tasks_of_hall hall js [] all = tt
tasks_of_hall hall [] (t ∷ ts) all = let count : suc (length (map kept_of ts)) ≡ 0 = ap length all in absurd (omega arith)
tasks_of_hall hall (j ∷ js) (t ∷ ts) all = (ap second (ap head all), tasks_of_hall hall js ts (ap tail all))
  where
    head : List (Job × HallView) → Job × HallView
    head [] = (j, hall)
    head (x ∷ xs) = x

    tail : List (Job × HallView) → List (Job × HallView)
    tail [] = []
    tail (x ∷ xs) = xs

    second : Job × HallView → HallView
    second x = x.1

-- a worker stays at its job, with its hall
pub kept_set : (ts : List TaskView) (i : ℕ) (t u : TaskView) → u.job ≡ (slice_index_or ts i t).job → u.hall ≡ (slice_index_or ts i t).hall → map kept_of (slice_set ts i u) ≡ map kept_of ts
kept_set [] i t u a b = refl
kept_set (x ∷ xs) zero t u a b = λ j. (a j, b j) ∷ map kept_of xs
kept_set (x ∷ xs) (suc i) t u a b = ap (λ l. kept_of x ∷ l) (kept_set xs i t u a b)

-- ---- of the first thread, and of those behind it

pub record FirstShare (hall : HallView) (hs : List Handle) (h : Handle) : Type 0 where
  pub hall_is : h.promise.hall.now ≡ hall
  pub others : AreOfHall hall (remove hs 0)
  pub count : length h.promise.jobs.now + jobs_with (remove hs 0) ≡ jobs_with hs

pub first_share : (hall : HallView) (hs : List Handle) (h : Handle) → AreOfHall hall hs → 0 < length hs → h ≡ get_or hs 0 h → FirstShare hall hs h
first_share hall [] h all some is = absurd (omega arith)
first_share hall (k ∷ ks) h all some is = record {
  hall_is = ap (λ (x : Handle). x.promise.hall.now) is ∙ all.0;
  others = all.1;
  count = ap (λ (x : Handle). length x.promise.jobs.now + jobs_with ks) is;
}
