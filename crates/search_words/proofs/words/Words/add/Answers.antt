use Rattle.search_words.proofs.WordLemmas.{words_more}
use Rattle.search_words.proofs.words.Words.add.Goals as goal

pub returns : goal.returns
returns c =
    words_more c.args.log.now c.args.self.now c.add_event.new.self c.args.at c.in_ok-add_event.ensures.keeps c.in_ok-add_event.ensures.rise c.in_ok-add_event.ensures.own c.requires
