use Rattle.log_cells.proofs.MarkLemmas.{Joins}
use Rattle.log_cells.proofs.cells.join.Given as goal

abbrev pub invariant-loop-at : goal.invariant-loop-at
invariant-loop-at l = Joins l.fn.words l.words l.first l.at
