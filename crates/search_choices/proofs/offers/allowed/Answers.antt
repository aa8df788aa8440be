use Rattle.std.proofs.Common.{take}
use Rattle.search_choices.proofs.Covering.{offers_next, offers_end}
use Rattle.search_choices.proofs.offers.allowed.Goals as goal

pub loop-b-preserved : goal.loop-b-preserved
loop-b-preserved c =
    let pending = c.args.scene.place.now.pending in
    offers_next c.args.scene.log.now c.args.scene.place.now.state c.args.scene.others.now.due c.offer.new.steps.items pending c.pending-b-items.result.now c.loop-b.b-index
    c.pending-b-items.ensures c.loop-b-test.true (c.in_ok-offer.ensures (take c.loop-b.b-index pending) c.loop-b.invariant)

pub returns : goal.returns
returns c =
    let pending = c.args.scene.place.now.pending in
    offers_end c.args.scene.log.now c.args.scene.place.now.state c.args.scene.others.now.due c.loop-b.steps.items pending c.pending-b-items.result.now c.loop-b.b-index c.pending-b-items.ensures c.loop-b-test.false c.loop-b.invariant
