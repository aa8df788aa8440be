use Rattle.search_words.proofs.TallyLemmas.{Counted}
use Rattle.search_words.proofs.counting.is_overdrawn.Given as goal

abbrev pub invariant-loop-b : goal.invariant-loop-b
invariant-loop-b l = Counted l.log l.q l.b l.tally
