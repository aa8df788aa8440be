-- Frames, as a stack keeps them: for each how many steps were taken and how many are noted, and one list of each kind.
use Rattle.std.specs.Prelude.{ℕ, ◌≡◌, ◌+◌, ◌≤◌, List, [], ◌∷◌, ◌++◌, length, take, drop}
use Rattle.log_runs.specs.declared.Step.{Step}
use Rattle.search_places.specs.declared.steps.Done.{Done}
use Rattle.search_run.specs.declared.stack.Mark.{Mark}
use Rattle.search_run.specs.StackView.{FrameView}

-- how many steps of all frames were taken, and how many are noted
abbrev pub taken_by : List Mark → ℕ
taken_by [] = 0
taken_by (m ∷ ms) = m.done + taken_by ms

abbrev pub noted_by : List Mark → ℕ
noted_by [] = 0
noted_by (m ∷ ms) = m.noted + noted_by ms

-- the frames
abbrev pub frames_in : List Mark → List Done → List Step → List FrameView
frames_in [] ds xs = []
frames_in (m ∷ ms) ds xs = record { done = take m.done ds; noted = take m.noted xs } ∷ frames_in ms (drop m.done ds) (drop m.noted xs)

-- all steps are there
pub record IsCut (ms : List Mark) (n : ℕ) (ds : List Done) (xs : List Step) : Type 0 where
  pub closed : n ≡ taken_by ms
  pub taken : taken_by ms ≤ length ds
  pub noted : length xs ≡ noted_by ms

-- at the last frame one step less is noted
pub record Lowers (ms ks : List Mark) : Type 0 where
  pub before : List Mark
  pub old-mark : Mark
  pub new-mark : Mark
  pub old : ms ≡ before ++ old-mark ∷ []
  pub new : ks ≡ before ++ new-mark ∷ []
  pub same : new-mark.done ≡ old-mark.done
  pub less : new-mark.noted + 1 ≡ old-mark.noted

-- no step is noted at the last frame, if there is one
abbrev pub IsLowest : List Mark → Type 0
IsLowest ms = (before : List Mark) (m : Mark) → ms ≡ before ++ m ∷ [] → m.noted ≡ 0
