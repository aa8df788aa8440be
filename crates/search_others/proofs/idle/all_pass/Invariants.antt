use Rattle.std.proofs.Common.{ℕ, ◌<◌, ◌≤◌}
use Rattle.search_words.specs.Words.{NamesWord}
use Rattle.search_others.specs.Passing.{Passes}
use Rattle.search_others.proofs.idle.all_pass.Given as goal

abbrev pub invariant-loop-word : goal.invariant-loop-word
invariant-loop-word l = (w : ℕ) → l.first ≤ w → w < l.word → (b : ℕ) → l.from ≤ b → b < l.to → NamesWord l.log b w → Passes l.log l.place.state l.idler b
