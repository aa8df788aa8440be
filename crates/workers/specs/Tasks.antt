-- The workers of a thread.
use Rattle.std.specs.Prelude.{◌≡◌, ℕ, List, map}
use Rattle.std.specs.List.{sum_by, AllByRecursion as Each}
use Rattle.hall_core.specs.Views.{HallView}
use Rattle.workers.specs.declared.jobs.Job.{Job}

-- the hall of a worker's seat, and how many turns it has
pub record ShiftView : Type 0 where
  pub hall : HallView
  pub left : ℕ

-- the job of a worker, the hall of its seat, and how many turns it has before it has ended, 0 once it has
pub record TaskView : Type 0 where
  pub job : Job
  pub hall : HallView
  pub left : ℕ

-- those of all
abbrev pub turns_left : List TaskView → ℕ
turns_left ts = sum_by (λ t. t.left) ts

-- what stays as it is
abbrev pub kept_of : TaskView → Job × HallView
kept_of t = (t.job, t.hall)

-- their seats are of that hall
abbrev pub AreWorkersOf : HallView → List TaskView → Type 0
AreWorkersOf hall ts = Each (λ t. t.hall ≡ hall) ts

-- a worker with a seat of that hall for each job
abbrev pub AreTasks : HallView → List Job → List TaskView → Type 0
AreTasks hall js ts = map kept_of ts ≡ map (λ j. (j, hall)) js
