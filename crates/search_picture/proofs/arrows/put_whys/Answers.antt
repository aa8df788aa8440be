use Rattle.std.proofs.Common.{◌∙◌}
use Rattle.search_picture.proofs.Steps.{whys-next, whys-past}
use Rattle.search_picture.proofs.arrows.put_whys.Goals as goal

pub loop-arrow-preserved : goal.loop-arrow-preserved
loop-arrow-preserved c =
    whys-next c.args.requests.now c.arrow-item.result c.args.arrows.now c.loop-arrow.arrow-index c.loop-arrow.out.items c.put_why.new.out.items
    c.loop-arrow-test.true c.arrow-item.is c.in_ok-put_why.ensures
    ∙ c.loop-arrow.invariant

pub returns : goal.returns
returns c = whys-past c.args.requests.now c.args.arrows.now c.loop-arrow.arrow-index _ c.loop-arrow.out.items c.loop-arrow-test.false c.loop-arrow.invariant
