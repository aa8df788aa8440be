use Rattle.log_cells.proofs.MarkLemmas.{AreBounds}
use Rattle.log_cells.proofs.cells.bounds_of.Given as goal

abbrev pub invariant-loop-at : goal.invariant-loop-at
invariant-loop-at l = AreBounds l.extent l.beginnings l.at l.bounds.items
