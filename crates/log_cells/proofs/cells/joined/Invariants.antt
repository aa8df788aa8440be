use Rattle.std.proofs.Common.{◌≡◌, ◌/◌, length}
use Rattle.log_cells.specs.Marks.{AreJoined}
use Rattle.log_cells.proofs.cells.joined.Given as goal

abbrev pub invariant-loop-at : goal.invariant-loop-at
invariant-loop-at l = record {
  len : length l.words.items ≡ l.extent.size / 4;
  joined : AreJoined l.extent l.places l.words.items l.at;
}
