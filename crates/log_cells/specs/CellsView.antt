-- A memory divided into ranges.
use Rattle.std.specs.Prelude.{ℕ, List}
use Rattle.log_cells.specs.declared.places.Place.{Place}

-- which bytes each event of a log names, and where the ranges begin and the last one ends
pub record CellsView : Type 0 where
  pub places : List Place
  pub bounds : List ℕ
