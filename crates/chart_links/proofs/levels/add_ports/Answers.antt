use Rattle.std.proofs.Common.{sym}
use Rattle.std.proofs.lemmas.List.{append-nil}
use Rattle.chart_links.proofs.Lines.{ports-next}
use Rattle.chart_links.proofs.levels.add_ports.Goals as goal

pub loop-place-init : goal.loop-place-init
loop-place-init c = sym (append-nil c.args.lines.now.items)

pub loop-place-preserved : goal.loop-place-preserved
loop-place-preserved c =
    ports-next c.loop-place.place c.args.lines.now.items c.loop-place.lines.items c.add_lane.new.lines.items c.add_lane-in-loop-place.new.lines.items
    c.loop-place.invariant c.in_ok-add_lane.ensures c.in_ok-add_lane-2.ensures
