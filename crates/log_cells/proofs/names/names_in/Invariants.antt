use Rattle.log_cells.specs.Places.{AreNames}
use Rattle.log_cells.proofs.names.names_in.Given as goal

abbrev pub invariant-loop-at : goal.invariant-loop-at
invariant-loop-at l = AreNames l.names.items l.places l.low l.high l.at
