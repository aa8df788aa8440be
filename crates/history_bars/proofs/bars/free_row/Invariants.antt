use Rattle.std.proofs.Common.{◌≡◌, ◌+◌, ◌-◌, length, drop}
use Rattle.history_bars.specs.Layout.{free_row}
use Rattle.history_bars.proofs.bars.free_row.Given as goal

abbrev pub invariant-loop-row : goal.invariant-loop-row
invariant-loop-row l = free_row l.ends l.start ≡ l.row + free_row (drop l.row l.ends) l.start

abbrev pub decreases-loop-row : goal.decreases-loop-row
decreases-loop-row l = length l.ends - l.row
