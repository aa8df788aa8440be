use Rattle.std.proofs.Common.{◌∙◌}
use Rattle.chart_page.proofs.Steps.{open-next, open-past}
use Rattle.chart_page.proofs.page.put_all_open.Goals as goal

pub loop-of-preserved : goal.loop-of-preserved
loop-of-preserved c =
    open-next c.args.frame c.args.opens.now c.loop-of.of-index c.of-item.result c.loop-of.out.items c.put_open.new.out.items c.loop-of-test.true c.of-item.is c.in_ok-put_open.ensures
    ∙ c.loop-of.invariant

pub returns : goal.returns
returns c = open-past c.args.frame c.args.opens.now c.loop-of.of-index c.loop-of.out.items c.loop-of-test.false ∙ c.loop-of.invariant
