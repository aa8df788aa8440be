use Rattle.std.proofs.Common.{◌≡◌, ◌+◌, ◌-◌, ◌^◌, ◌≤◌}
use Rattle.tlp_core.specs.Operation.{address_of, count_of}
use Rattle.op_pieces.specs.Pieces.{cut, dw_of}
use Rattle.log_pieces.specs.Pieces.{count_if_served}
use Rattle.log_pieces.proofs.CountLemmas.{more}
use Rattle.log_pieces.proofs.cutting.count_served.Given as goal

abbrev pub invariant-loop-turn : goal.invariant-loop-turn
invariant-loop-turn l = record {
  same : more l.turn (count_if_served l.extent (cut l.bytes (dw_of l.fn.op - l.turn) l.rest)) ≡ count_if_served l.extent (cut l.bytes (dw_of l.fn.op) l.fn.op);
  fits : address_of l.rest + count_of l.rest ≤ 2 ^ 64;
}
