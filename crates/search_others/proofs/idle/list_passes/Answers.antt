use Rattle.search_others.specs.Passing.{Passes}
use Rattle.search_others.proofs.OthersOf.{list_next, list_end}
use Rattle.search_others.proofs.idle.list_passes.Goals as goal

pub loop-b-preserved : goal.loop-b-preserved
loop-b-preserved c =
    list_next (Passes c.args.log.now c.args.place.now.state c.args.idler) c.args.list.now c.loop-b.b-index (c.passes.ensures c.if-not-passes.false) c.loop-b.invariant

pub returns : goal.returns
returns c = λ yes. list_end (Passes c.args.log.now c.args.place.now.state c.args.idler) c.args.list.now c.loop-b.b-index c.loop-b-test.false c.loop-b.invariant
