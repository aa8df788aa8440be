use Rattle.trace_diagnostics.proofs.Numbers.{told}
use Rattle.trace_diagnostics.proofs.laws.lines_have_their_numbers.Goals as goal

pub returns : goal.returns
returns c = told
