use Rattle.std.proofs.Common.{◌≡◌, length, subst, arith}
use Rattle.search_words.specs.Words.{AreWords}
use Rattle.search_words.proofs.WordLemmas.{words_none}
use Rattle.search_words.proofs.words.words_of.Goals as goal

pub loop-at-init : goal.loop-at-init
loop-at-init c = words_none c.args.log.now c.new-words.result (c.new-words.ensures 0)

pub returns : goal.returns
returns c =
    let log = c.args.log.now in
    let all : c.loop-at.at ≡ length log.events = omega (arith, c.loop-at-test.false, c.loop-at.auto.at-end, c.len-at-end.ensures) in
    subst (AreWords log c.loop-at.words) all c.loop-at.invariant
