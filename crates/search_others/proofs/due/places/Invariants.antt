use Rattle.search_others.specs.Known.{AreEarliest}
use Rattle.search_others.proofs.due.places.Given as goal

abbrev pub invariant-loop-i : goal.invariant-loop-i
invariant-loop-i l = AreEarliest l.log l.due.items
