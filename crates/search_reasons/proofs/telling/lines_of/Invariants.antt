use Rattle.std.proofs.Common.{◌≡◌, length}
use Rattle.trace_diagnostics.specs.Told.{numbered_all}
use Rattle.search_reasons.specs.Lines.{lines_in, said_lines}
use Rattle.search_reasons.proofs.telling.lines_of.Given as goal

abbrev pub invariant-loop-line : goal.invariant-loop-line
invariant-loop-line l = numbered_all l.lines (said_lines l.rest) ≡ lines_in l.text

abbrev pub decreases-loop-line : goal.decreases-loop-line
decreases-loop-line l = length l.rest
