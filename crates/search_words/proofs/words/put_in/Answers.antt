use Rattle.std.proofs.Common.{◌∙◌, ◌+◌, sym, arith}
use Rattle.search_words.proofs.WordLemmas.{word_is}
use Rattle.search_words.proofs.words.put_in.Goals as goal

pub returns-clause-puts : goal.returns-clause-puts
returns-clause-puts c = λ m there.
    let at = c.in_ok-at.ensures in
    let value = c.in_ok-value.ensures in
    word_is m c.args.new.now _ c.args.base c.in_ok-at.at c.args.word at.low at.place
    (λ i l. there (c.in_ok-at.at + i) (omega (arith, value.within, l)) (c.puts_four.ensures c.if-not-puts_four.false i l)) ∙ sym value.value
