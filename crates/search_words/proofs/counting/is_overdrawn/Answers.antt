use Rattle.std.proofs.Common.{◌≡◌, length, refl, arith}
use Rattle.std.proofs.lemmas.Bool.{ltb-true}
use Rattle.search_words.proofs.TallyLemmas.{counted_none, counted_more, overdrawn}
use Rattle.search_words.proofs.counting.is_overdrawn.Goals as goal

pub loop-b-init : goal.loop-b-init
loop-b-init c = counted_none c.args.log.now c.args.q c.first_of.result _ c.first_of.ensures.first refl refl

pub loop-b-preserved : goal.loop-b-preserved
loop-b-preserved c =
    counted_more c.args.log.now c.args.q c.loop-b.b c.loop-b.tally c.plus-tally.result c.role_of.result c.loop-b.invariant c.role_of.ensures c.plus-tally.ensures.takes c.plus-tally.ensures.puts

pub returns : goal.returns
returns c = λ yes.
    let all : c.loop-b.b ≡ length c.args.log.now.events = omega (arith, c.loop-b.auto.b-end, c.loop-b-test.false, c.len-b-end.ensures) in
    c.what_is_overdrawn_is_dead.ensures c.args.log.now c.args.q
    (overdrawn c.args.log.now c.args.q c.loop-b.b c.loop-b.tally c.loop-b.invariant all (ltb-true c.loop-b.tally.puts c.loop-b.tally.takes yes))
