use Rattle.std.proofs.Common.{◌<◌}
use Rattle.std.specs.List.{All}
use Rattle.log_cells.specs.Cells.{IsRising}
use Rattle.log_cells.specs.Marks.{IsBeginning}
use Rattle.log_cells.proofs.cells.beginnings.Given as goal

abbrev pub invariant-loop-at : goal.invariant-loop-at
invariant-loop-at l = record {
  begin : All (IsBeginning l.words) l.beginnings.items;
  rising : IsRising l.beginnings.items;
  before : All (λ b. b < l.at) l.beginnings.items;
}
