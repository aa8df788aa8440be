use Rattle.std.proofs.Common.{◌≡◌, drop}
use Rattle.std.specs.List.{list_all}
use Rattle.op_pieces.specs.Pieces.{is_served}
use Rattle.log_pieces.proofs.cutting.are_served.Given as goal

abbrev pub invariant-loop-op : goal.invariant-loop-op
invariant-loop-op l = list_all (is_served l.extent) (drop l.op-index l.ops) ≡ list_all (is_served l.extent) l.ops
