use Rattle.search_words.proofs.words.is_careless.Goals as goal

pub returns-then-has_whole_words : goal.returns-then-has_whole_words
returns-then-has_whole_words c = λ so. (c.has_whole_words.ensures c.if-has_whole_words.true, c.overlooks.ensures so)
