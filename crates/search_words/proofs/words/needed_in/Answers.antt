use Rattle.std.proofs.Common.{◌∙◌, ◌+◌, sym, arith}
use Rattle.search_words.proofs.WordLemmas.{word_is}
use Rattle.search_words.proofs.words.needed_in.Goals as goal

pub returns-clause-needs : goal.returns-clause-needs
returns-clause-needs c = λ m there.
    let at = c.in_ok-at.ensures in
    let value = c.in_ok-value.ensures in
    word_is m c.args.seen.now _ c.args.base c.in_ok-at.at c.args.word at.low at.place
    (λ i l. there (c.in_ok-at.at + i) (c.needs_four.ensures c.if-not-needs_four.false i l) (omega (arith, value.within, l))) ∙ sym value.value
