use Rattle.chart_page.proofs.Steps.{text-none, columns-next}
use Rattle.chart_page.proofs.heading.put_requester_columns.Goals as goal

pub loop-place-init : goal.loop-place-init
loop-place-init c = text-none c.args.out.now.items

pub loop-place-preserved : goal.loop-place-preserved
loop-place-preserved c =
    columns-next c.args.frame c.loop-place.place c.args.bottom c.args.out.now.items c.loop-place.out.items c.put_requester_column.new.out.items c.loop-place.invariant c.in_ok-put_requester_column.ensures
