use Rattle.std.proofs.Common.{◌≡◌, take}
use Rattle.log_runs.specs.Explainable.{prefix}
use Rattle.log_pieces.specs.Pieces.{pieces}
use Rattle.log_pieces.specs.InPieces.{cut_log}
use Rattle.log_pieces.specs.RowView.{AreRows}
use Rattle.log_pieces.proofs.splitting.cut_log.Given as goal

abbrev pub invariant-loop-at : goal.invariant-loop-at
invariant-loop-at l = record {
  rows : AreRows (pieces l.cut.bytes l.cut.extent) l.table.items (take l.at l.records);
  done : l.pieces ≡ cut_log l.bytes (prefix l.at l.log);
}
