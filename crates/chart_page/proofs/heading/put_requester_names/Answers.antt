use Rattle.chart_page.proofs.Steps.{text-none, names-next}
use Rattle.chart_page.proofs.heading.put_requester_names.Goals as goal

pub loop-place-init : goal.loop-place-init
loop-place-init c = text-none c.args.out.now.items

pub loop-place-preserved : goal.loop-place-preserved
loop-place-preserved c =
    names-next c.args.frame c.loop-place.place c.args.y c.args.out.now.items c.loop-place.out.items c.put_requester_name.new.out.items c.loop-place.invariant c.in_ok-put_requester_name.ensures
