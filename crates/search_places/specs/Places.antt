-- What the search's lists of pending requests say.
use Rattle.log_runs.specs.LogView.{LogView}
use Rattle.search_places.specs.PlaceView.{PlaceView}
use Rattle.search_places.specs.Pending.{IsTable, ArePosts}

-- of the requests that were passed those have acted that aren't pending, and posts are the posted writes among the pending ones
pub record IsPlace (log : LogView) (p : PlaceView) : Type 0 where
  pub table : IsTable log p.state.event p.pending p.state.acted
  pub posts : ArePosts log p.pending p.posts
