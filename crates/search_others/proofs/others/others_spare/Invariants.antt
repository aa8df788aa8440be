use Rattle.std.proofs.Common.{ℕ, ◌<◌, ◌≤◌}
use Rattle.search_words.specs.Words.{NamesWord}
use Rattle.search_others.specs.Spared.{Holds}
use Rattle.search_others.proofs.others.others_spare.Given as goal

abbrev pub invariant-loop-word : goal.invariant-loop-word
invariant-loop-word l = (w : ℕ) → l.first ≤ w → w < l.word → (b : ℕ) → l.from ≤ b → b < l.question.before → NamesWord l.log b w → Holds l.log l.place.state l.question b
