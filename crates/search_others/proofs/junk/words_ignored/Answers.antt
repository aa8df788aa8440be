use Rattle.std.proofs.Common.{ℕ, ◌<◌, ◌≤◌, arith}
use Rattle.search_words.specs.Words.{NamesWord}
use Rattle.search_others.specs.Nothing.{Ignores}
use Rattle.search_others.proofs.OthersOf.{word_next}
use Rattle.search_others.proofs.NothingLemmas.{all_at_words}
use Rattle.search_others.proofs.junk.words_ignored.Goals as goal

pub loop-word-preserved : goal.loop-word-preserved
loop-word-preserved c =
    word_next
    (λ (w : ℕ). (b : ℕ) → c.earliest-from.result ≤ b → b < c.len-to.result → NamesWord c.args.log.now b w → Ignores c.args.log.now c.args.place.now.state c.args.junk w b)
    c.in-Some.first c.loop-word.word c.loop-word.invariant (c.word_ignored.ensures c.if-not-word_ignored.false)

pub returns : goal.returns
returns c = λ yes.
    all_at_words c.args.log.now c.args.place.now c.args.junk c.args.q c.in-Some.first c.in-Some.end c.earliest-from.result (c.who_is_left_is_pending.ensures c.args.log.now c.args.place.now)
    c.requires.place c.earliest-from.ensures.pending c.earliest-from.ensures.passed c.in-Some.ensures.own
    (λ w low high b early late named. c.loop-word.invariant w low (omega (arith, high, c.loop-word-test.false)) b early (omega (arith, late, c.len-to.ensures)) named)
