use Rattle.std.proofs.Common.{ℕ, ◌<◌, ◌≤◌, arith}
use Rattle.search_words.specs.Words.{NamesWord}
use Rattle.search_others.specs.Passing.{Passes}
use Rattle.search_others.proofs.OthersOf.{word_next}
use Rattle.search_others.proofs.PassLemmas.{pass_by_words}
use Rattle.search_others.proofs.idle.all_pass.Goals as goal

pub loop-word-preserved : goal.loop-word-preserved
loop-word-preserved c =
    word_next
    (λ (w : ℕ). (b : ℕ) → c.earliest-from.result ≤ b → b < c.event-to.result → NamesWord c.args.log.now b w → Passes c.args.log.now c.args.place.now.state c.args.idler b)
    c.in-Some.first c.loop-word.word c.loop-word.invariant (c.word_passed.ensures c.if-not-word_passed.false)

pub returns : goal.returns
returns c = λ yes.
    pass_by_words c.args.log.now c.args.place.now c.args.idler c.in-Some.first c.in-Some.end c.earliest-from.result (c.who_is_left_is_pending.ensures c.args.log.now c.args.place.now)
    c.requires.place c.earliest-from.ensures.pending c.requires.own c.in-Some.ensures.all
    (λ w low high b early late named. c.loop-word.invariant w low (omega (arith, high, c.loop-word-test.false)) b early (omega (arith, late, c.event-to.ensures)) named)
