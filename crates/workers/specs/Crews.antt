-- The seats of a run's hall, and the pass of its checker.
use Rattle.std.specs.Prelude.{◌≡◌, ◌+◌, ◌<◌, [], vec_len, length, map}
use Rattle.recorder.specs.Rule.{unbegun}
use Rattle.workers.specs.declared.context.RunContext.{RunContext}
use Rattle.workers.specs.declared.context.Crew.{Crew}
use Rattle.workers.specs.Jobs.{jobs_of, AreShares}
use Rattle.workers.specs.Running.{AreUnusedSeats, AreWorkSeats}

-- a seat for each script, one for each of the other jobs, which threads share, and a checker's pass with which nothing
-- was taken yet
pub record IsCrewOf (run : RunContext) (crew : Crew) : Type 0 where
  pub count : vec_len crew.seats ≡ length run.plan.scripts.items
  pub few : length run.plan.scripts.items < 8
  pub requesters : length run.plan.scripts.items ≡ run.hall.config.requesters
  pub some : 0 < run.hall.config.requesters
  pub all : run.hall.seats ≡ run.hall.config.requesters + length (jobs_of run.plan.config.requesters)
  pub seats : AreUnusedSeats run.hall 1 crew.seats.items
  pub shares : AreShares run.plan.config.requesters run.plan.threads (map (λ s. s.items) run.shares.items)
  pub others : vec_len crew.workers ≡ length (jobs_of run.plan.config.requesters)
  pub workers : AreWorkSeats run.hall crew.workers.items
  pub queue : crew.taker.queue ≡ run.recorder
  pub known : crew.taker.taken.known ≡ unbegun 7 1
  pub records : crew.taker.taken.records ≡ []
