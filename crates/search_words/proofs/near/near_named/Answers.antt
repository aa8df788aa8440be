use Rattle.search_words.proofs.NearLemmas.{by_name}
use Rattle.search_words.proofs.near.near_named.Goals as goal

pub returns : goal.returns
returns c = λ b from to names. c.near_by_name.ensures b from to (by_name c.args.log.now c.args.words.now c.requires.words b c.args.stretch.word names c.requires.word)
