-- Places by number.
use Rattle.std.specs.Prelude.{ℕ, List}
use Rattle.search_words.specs.declared.lists.Spot.{Spot}

-- by number, its place, or where the list of its places is; those lists
pub record ListsView : Type 0 where
  pub spots : List (ℕ × Spot)
  pub several : List (List ℕ)
