use Rattle.search_words.specs.Words.{AreWords}
use Rattle.search_words.proofs.words.words_of.Given as goal

abbrev pub invariant-loop-at : goal.invariant-loop-at
invariant-loop-at l = AreWords l.log l.words l.at
