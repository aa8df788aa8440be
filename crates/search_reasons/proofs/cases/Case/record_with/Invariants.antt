use Rattle.std.proofs.Common.{◌≤◌, ◌<◌, ℕ, get_or}
use Rattle.search_reasons.proofs.cases.Case.record_with.Given as goal

abbrev pub invariant-loop-at : goal.invariant-loop-at
invariant-loop-at l = (k : ℕ) → k < l.at → get_or l.ends k 0 ≤ l.place
