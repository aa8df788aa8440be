use Rattle.std.proofs.Common.{◌≡◌, ◌+◌, ◌<◌, [], ℕ, Some, length, slice_get, take}
use Rattle.log_pieces.specs.Pieces.{pieces}
use Rattle.log_pieces.specs.InPieces.{split_all}
use Rattle.log_pieces.specs.RowView.{AreRows}
use Rattle.log_pieces.proofs.counting.ends.Given as goal

abbrev pub invariant-loop-at : goal.invariant-loop-at
invariant-loop-at l = record {
  rows : AreRows (pieces l.cut.bytes l.cut.extent) l.table.items (take l.at l.records);
  done : l.so_far ≡ length (split_all (pieces l.cut.bytes l.cut.extent) [] (take l.at l.records));
  len : length l.ends.items ≡ l.at;
  each : (a : ℕ) → a < l.at → slice_get l.ends.items a ≡ Some (length (split_all (pieces l.cut.bytes l.cut.extent) [] (take (a + 1) l.records)));
}
