use Rattle.std.proofs.Common.{◌≡◌, ℕ, ◌<◌, [], length, take}
use Rattle.log_pieces.specs.Pieces.{pieces}
use Rattle.log_pieces.specs.InPieces.{split_all}
use Rattle.log_pieces.specs.RowView.{AreRows}
use Rattle.log_pieces.proofs.counting.reach.Given as goal

abbrev pub invariant-loop-at : goal.invariant-loop-at
invariant-loop-at l = record {
  rows : AreRows (pieces l.cut.bytes l.cut.extent) l.table.items (take l.at l.records);
  done : l.so_far ≡ length (split_all (pieces l.cut.bytes l.cut.extent) [] (take l.at l.records));
  least : (m : ℕ) → m < l.at → length (split_all (pieces l.cut.bytes l.cut.extent) [] (take m l.records)) < l.count;
}
