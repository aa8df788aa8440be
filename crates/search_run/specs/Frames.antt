-- What the search keeps between its steps.
use Rattle.std.specs.Prelude.{◌≡◌, List, [], ◌∷◌, length}
use Rattle.log_runs.specs.declared.Step.{Step}
use Rattle.log_runs.specs.LogView.{LogView}
use Rattle.log_runs.specs.Runs.{State, Allowed, Dead, AllDead, next, start}
use Rattle.search_places.specs.declared.steps.Done.{Done}
use Rattle.search_run.specs.declared.walk.Walk.{Walk}
use Rattle.search_run.specs.StackView.{FrameView}
use Rattle.search_places.specs.Places.{IsPlace}
use Rattle.search_places.specs.Undo.{LeadsBy}
use Rattle.search_places.specs.Known.{AreDead}

-- The way from s through the frames. At each frame stands some m: steps lead to it, it isn't the end, and if it is dead, P
-- holds. K says how it goes on from the last m, and what follows if that is dead: no step that is noted there leads anywhere.
abbrev pub Path : LogView → Type 0 → State → List FrameView → (State → Type 0 → Type 0) → Type 0
Path log P s [] K = K s P
Path log P s (f ∷ fs) K =
    (m : State) × LeadsBy log s f.done m × (m.event ≡ length log.events → ⊥) × (Dead log m → P)
    × Path log (AllDead log m f.noted) m fs K

abbrev pub PathFrom : LogView → List FrameView → (State → Type 0 → Type 0) → Type 0
PathFrom log fs K = Path log (Dead log (start log)) (start log) fs K

-- steps lead here, and if this is dead, so is what follows each step that is noted at the last frame
abbrev pub Here : LogView → List Done → State → State → Type 0 → Type 0
Here log ds t m P = LeadsBy log m ds t × (Dead log t → P)

-- steps lead here, where nothing is to be found
abbrev pub Back : LogView → List Done → State → State → Type 0 → Type 0
Back log ds t m P = LeadsBy log m ds t × P

-- the search stands at its place
pub record IsAt (log : LogView) (w : Walk) : Type 0 where
  pub path : PathFrom log w.stack.frames (Here log w.stack.done w.here.state)
  pub place : IsPlace log w.here
  pub known : AreDead log w.memo

-- its place is done with
pub record IsBack (log : LogView) (w : Walk) : Type 0 where
  pub path : PathFrom log w.stack.frames (Back log w.stack.done w.here.state)
  pub place : IsPlace log w.here
  pub known : AreDead log w.memo

-- it stands at the last frame, if there is one, and no step that is noted there leads to the end
pub record IsReady (log : LogView) (w : Walk) : Type 0 where
  pub path : PathFrom log w.stack.frames (λ m P. (m ≡ w.here.state) × P)
  pub none : w.stack.done ≡ []
  pub place : IsPlace log w.here
  pub known : AreDead log w.memo

-- so it is, and there is one
pub record IsOpen (log : LogView) (w : Walk) : Type 0 where
  pub ready : IsReady log w
  pub some : w.stack.frames ≡ [] → ⊥

-- it stands at the last frame, to take step x, which is noted there last
pub record MayTake (log : LogView) (w : Walk) (x : Step) : Type 0 where
  pub allowed : Allowed log w.here.state x
  pub path : PathFrom log w.stack.frames (λ m P. (m ≡ w.here.state) × (Dead log (next log w.here.state x) → P))
  pub none : w.stack.done ≡ []
  pub place : IsPlace log w.here
  pub known : AreDead log w.memo

-- if the step may be taken, it doesn't lead to the end
abbrev pub LeadsNowhere : LogView → State → Step → Type 0
LeadsNowhere log s x = Allowed log s x → Dead log (next log s x)

-- it stood as w and stands as v, at the same frame, and none of the steps leads to the end
pub record AreLost (log : LogView) (w v : Walk) (xs : List Step) : Type 0 where
  pub at : IsOpen log v
  pub state : v.here.state ≡ w.here.state
  pub dead : AllDead log w.here.state xs
  pub same : length v.stack.frames ≡ length w.stack.frames

-- it stood as w and stands as v, at the same frame, from which nothing leads to the end
pub record IsSpent (log : LogView) (w v : Walk) : Type 0 where
  pub at : IsOpen log v
  pub dead : Dead log v.here.state
  pub same : length v.stack.frames ≡ length w.stack.frames
