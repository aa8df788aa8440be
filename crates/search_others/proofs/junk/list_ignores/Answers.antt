use Rattle.search_others.specs.Nothing.{Ignores}
use Rattle.search_others.proofs.OthersOf.{list_next, list_end}
use Rattle.search_others.proofs.junk.list_ignores.Goals as goal

pub loop-b-preserved : goal.loop-b-preserved
loop-b-preserved c =
    list_next (Ignores c.args.log.now c.args.place.now.state c.args.junk c.args.word) c.args.list.now c.loop-b.b-index (c.ignores.ensures c.if-not-ignores.false) c.loop-b.invariant

pub returns : goal.returns
returns c = λ yes. list_end (Ignores c.args.log.now c.args.place.now.state c.args.junk c.args.word) c.args.list.now c.loop-b.b-index c.loop-b-test.false c.loop-b.invariant
