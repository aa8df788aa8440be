use Rattle.std.proofs.Common.{take}
use Rattle.log_cells.specs.Places.{ArePlaces}
use Rattle.log_cells.proofs.places.places_of.Given as goal

abbrev pub invariant-loop-at : goal.invariant-loop-at
invariant-loop-at l = ArePlaces (take l.at l.log.events) l.places.items
