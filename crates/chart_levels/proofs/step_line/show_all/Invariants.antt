use Rattle.std.proofs.Common.{◌≡◌, ◌++◌, map, take, drop}
use Rattle.chart_levels.specs.Levels.{shown}
use Rattle.chart_levels.proofs.step_line.show_all.Given as goal

abbrev pub invariant-loop-line : goal.invariant-loop-line
invariant-loop-line g l = l.lines ≡ map (shown l.row l.fabric) (take l.line-index l.fn.lines) ++ drop l.line-index l.fn.lines
