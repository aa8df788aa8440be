use Rattle.search_others.proofs.DueLemmas.{AreEarliestTo}
use Rattle.search_others.proofs.due.answers.Given as goal

abbrev pub invariant-loop-at : goal.invariant-loop-at
invariant-loop-at l = AreEarliestTo l.log l.due.items l.at
