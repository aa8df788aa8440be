-- What a stack of the search holds.
use Rattle.std.specs.Prelude.{List}
use Rattle.log_runs.specs.declared.Step.{Step}
use Rattle.search_places.specs.declared.steps.Done.{Done}

-- a place from which several steps may be taken: the steps that lead there from the frame before, and those that are noted there
pub record FrameView : Type 0 where
  pub done : List Done
  pub noted : List Step

-- the frames, and the steps since the last one
pub record StackView : Type 0 where
  pub frames : List FrameView
  pub done : List Done
