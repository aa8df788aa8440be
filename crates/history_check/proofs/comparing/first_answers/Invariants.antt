use Rattle.std.proofs.Common.{take}
use Rattle.history_words.specs.Lookup.{AreFirsts}
use Rattle.history_check.proofs.comparing.first_answers.Given as goal

abbrev pub invariant-loop-a : goal.invariant-loop-a
invariant-loop-a g l = AreFirsts l.firsts (g.C.AsClaim.claim l.claim).records (take l.a (g.C.AsClaim.claim l.claim).records)
