-- Steps that are taken back.
use Rattle.std.specs.Prelude.{ℕ, ◌≡◌, ◌≤◌, List, [], ◌∷◌, Option, Some, None, slice_get}
use Rattle.seq_memory.specs.Limits.{Extent}
use Rattle.search_effects.specs.Saved.{saved_at}
use Rattle.log_runs.specs.EventView.{EventView}
use Rattle.log_runs.specs.EventView as events
use Rattle.log_runs.specs.declared.Step.{Step}
use Rattle.log_runs.specs.declared.Step.TheVariants as steps
use Rattle.log_runs.specs.LogView.{LogView}
use Rattle.log_runs.specs.Runs.{State, Allowed, has_acted, next}
use Rattle.search_places.specs.declared.steps.Done.{Done}

-- the bytes at the request's place
abbrev pub old_at : Extent → List ℕ → Option EventView → List ℕ
old_at x m (Some (events.Sub i op told)) = saved_at x.base x.block m op
old_at x m (Some (events.Due b)) = []
old_at x m (Some events.Free) = []
old_at x m None = []

abbrev pub old_of : LogView → State → Step → List ℕ
old_of log s steps.Pass = []
old_of log s (steps.Act b) = old_at log.extent s.bytes (slice_get log.events b)

-- the step may be taken from m, and overwrites the bytes there; what wasn't passed hasn't acted
pub record MayCome (log : LogView) (m : State) (d : Done) : Type 0 where
  pub allowed : Allowed log m d.step
  pub old : d.old.items ≡ old_of log m d.step
  pub fresh : (b : ℕ) → m.event ≤ b → has_acted m b → ⊥

-- the step led from m to t
pub record CameBy (log : LogView) (m t : State) (d : Done) : Type 0 where
  pub may : MayCome log m d
  pub led : t ≡ next log m d.step

-- the steps lead from s to t, each with what it overwrote
abbrev pub LeadsBy : LogView → State → List Done → State → Type 0
LeadsBy log s [] t = s ≡ t
LeadsBy log s (d ∷ ds) t = MayCome log s d × LeadsBy log (next log s d.step) ds t
