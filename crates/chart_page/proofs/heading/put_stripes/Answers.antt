use Rattle.chart_page.proofs.Steps.{text-none, stripes-next}
use Rattle.chart_page.proofs.heading.put_stripes.Goals as goal

pub loop-stripe-init : goal.loop-stripe-init
loop-stripe-init c = text-none c.args.out.now.items

pub loop-stripe-preserved : goal.loop-stripe-preserved
loop-stripe-preserved c =
    stripes-next c.args.frame c.loop-stripe.stripe c.args.out.now.items c.loop-stripe.out.items c.put_stripe.new.out.items c.loop-stripe.invariant c.in_ok-put_stripe.ensures
