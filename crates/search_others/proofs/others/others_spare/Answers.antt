use Rattle.std.proofs.Common.{ℕ, ◌<◌, ◌≤◌, arith}
use Rattle.search_words.specs.Words.{NamesWord}
use Rattle.search_others.specs.Spared.{Holds}
use Rattle.search_others.proofs.OthersOf.{word_next, by_words}
use Rattle.search_others.proofs.others.others_spare.Goals as goal

pub loop-word-preserved : goal.loop-word-preserved
loop-word-preserved c =
    word_next
    (λ (w : ℕ). (b : ℕ) → c.earliest-from.result ≤ b → b < c.args.question.before → NamesWord c.args.log.now b w → Holds c.args.log.now c.args.place.now.state c.args.question b)
    c.in-Some.first c.loop-word.word c.loop-word.invariant (c.word_holds.ensures c.if-not-word_holds.false)

pub returns : goal.returns
returns c = λ yes.
    by_words c.args.log.now c.args.place.now c.args.question c.in-Some.first c.in-Some.end c.earliest-from.result (c.who_is_left_is_pending.ensures c.args.log.now c.args.place.now)
    c.requires.place c.earliest-from.ensures.pending c.earliest-from.ensures.passed c.in-Some.ensures.all
    (λ w low high. c.loop-word.invariant w low (omega (arith, high, c.loop-word-test.false)))
