use Rattle.search_others.proofs.junk.all_overlook.Goals as goal

pub returns : goal.returns
returns c = λ so w names b distinct out left. c.words_ignored.ensures so w names b left distinct out
