-- The jobs of the workers beside the requesters.
use Rattle.std.specs.Prelude.{◌≡◌, ◌<◌, ◌≤◌, ℕ, zero, suc, max, List, [], ◌∷◌, ◌++◌, length, map}
use Rattle.std.specs.List.{AllByRecursion, flat_map}
use Rattle.fabric_steps.specs.declared.event.LaneName.{LaneName}
use Rattle.fabric_steps.specs.declared.event.LaneName.TheVariants as lanes
use Rattle.workers.specs.declared.jobs.Job.{Job}
use Rattle.workers.specs.declared.jobs.Job.TheVariants as jobs

-- two for a lane
abbrev pub lane_jobs : LaneName → List Job
lane_jobs lane = jobs.Sender lane ∷ jobs.Receiver lane ∷ []

-- those of the two lanes of each of so many requesters
abbrev pub port_jobs : ℕ → List Job
port_jobs zero = []
port_jobs (suc n) = port_jobs n ++ (lane_jobs (lanes.Up (suc n)) ++ lane_jobs (lanes.Down (suc n)))

-- those of no port: of the lanes between switch and completer, of the switch and of the completer
abbrev pub middle_jobs : List Job
middle_jobs = lane_jobs lanes.Inward ++ (lane_jobs lanes.Outward ++ jobs.Switch ∷ jobs.Completer ∷ [])

-- all of a run with so many requesters: of each lane, of the switch and of the completer
abbrev pub jobs_of : ℕ → List Job
jobs_of requesters = port_jobs requesters ++ middle_jobs

-- the jobs of each of at most so many threads: one after the other they are all jobs, so that none is left out and none
-- stands twice; and no thread is without a job
pub record AreShares (requesters threads : ℕ) (shares : List (List Job)) : Type 0 where
  pub all : flat_map (λ s. s) shares ≡ jobs_of requesters
  pub some : AllByRecursion (λ s. 0 < length s) shares
  pub few : length shares ≤ max 1 threads

-- each job alone
abbrev pub AreSingle : List Job → List (List Job) → Type 0
AreSingle js shares = shares ≡ map (λ j. j ∷ []) js
