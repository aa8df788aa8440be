use Rattle.std.proofs.Common.{inr, arith}
use Rattle.search_words.proofs.words.Words.add_request.Goals as goal

pub returns-clause-own : goal.returns-clause-own
returns-clause-own c = inr (omega (arith, c.size.ensures.value), λ w touches within. let both = c.words_near-words.ensures.all w touches within in c.in_ok-add_words.ensures.own w both.0 both.1)
