-- What the calls of a stack do to its frames.
use Rattle.std.specs.Prelude.{◌≡◌, ◌+◌, ℕ, List, [], ◌∷◌, ◌++◌, length}
use Rattle.log_runs.specs.declared.Step.{Step}
use Rattle.search_run.specs.Trails.{steps_by}
use Rattle.search_run.specs.StackView.{FrameView, StackView}

-- the steps since the last frame became a frame, where no step is noted
abbrev pub close : StackView → StackView
close s = record { frames = s.frames ++ record { done = s.done; noted = [] } ∷ []; done = [] }

-- x is noted last at the last frame
pub record Notes (s t : StackView) (x : Step) : Type 0 where
  pub before : List FrameView
  pub frame : FrameView
  pub old : s.frames ≡ before ++ frame ∷ []
  pub new : t.frames ≡ before ++ record { done = frame.done; noted = frame.noted ++ x ∷ [] } ∷ []
  pub done : t.done ≡ s.done

-- the step that was noted last at the last frame isn't noted there
pub record Forgets (s t : StackView) : Type 0 where
  pub before : List FrameView
  pub frame : FrameView
  pub rest : List Step
  pub step : Step
  pub old : s.frames ≡ before ++ frame ∷ []
  pub at : frame.noted ≡ rest ++ step ∷ []
  pub new : t.frames ≡ before ++ record { done = frame.done; noted = rest } ∷ []
  pub done : t.done ≡ s.done

-- no step is noted at the last frame, if there is one
abbrev pub HasNone : StackView → Type 0
HasNone s = (fs : List FrameView) (f : FrameView) → s.frames ≡ fs ++ f ∷ [] → f.noted ≡ []

-- how many steps are noted
abbrev pub noted_at : List FrameView → ℕ
noted_at [] = 0
noted_at (f ∷ fs) = length f.noted + noted_at fs

-- the last frame is dropped, and its steps are among those since the frame before
pub record Reopens (s t : StackView) : Type 0 where
  pub frame : FrameView
  pub old : s.frames ≡ t.frames ++ frame ∷ []
  pub done : t.done ≡ frame.done ++ s.done

-- the steps of the frames
abbrev pub steps_of : List FrameView → List Step
steps_of [] = []
steps_of (f ∷ fs) = steps_by f.done ++ steps_of fs
