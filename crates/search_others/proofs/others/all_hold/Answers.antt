use Rattle.search_others.specs.Spared.{Holds}
use Rattle.search_others.proofs.OthersOf.{list_next, list_end}
use Rattle.search_others.proofs.others.all_hold.Goals as goal

pub loop-b-preserved : goal.loop-b-preserved
loop-b-preserved c =
    list_next (Holds c.args.log.now c.args.place.now.state c.args.question) c.args.list.now c.loop-b.b-index (c.holds.ensures c.if-not-holds.false) c.loop-b.invariant

pub returns : goal.returns
returns c = λ yes. list_end (Holds c.args.log.now c.args.place.now.state c.args.question) c.args.list.now c.loop-b.b-index c.loop-b-test.false c.loop-b.invariant
