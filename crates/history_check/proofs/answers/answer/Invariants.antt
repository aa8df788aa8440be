use Rattle.std.proofs.Common.{◌≡◌, None}
use Rattle.history_words.specs.Flaws.{first_at, answer_at}
use Rattle.history_check.proofs.answers.answer.Given as goal

abbrev pub invariant-loop-a : goal.invariant-loop-a
invariant-loop-a g l = first_at (answer_at (g.C.AsClaim.claim l.claim)) l.a ≡ None
