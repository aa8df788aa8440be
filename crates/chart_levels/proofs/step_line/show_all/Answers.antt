use Rattle.std.proofs.Common.{◌∙◌, sym, ap}
use Rattle.chart_levels.specs.Levels.{shown}
use Rattle.chart_levels.proofs.Mixed.{mixed_next, mixed_none, mixed_all}
use Rattle.chart_levels.proofs.step_line.show_all.Goals as goal

pub loop-line-init : goal.loop-line-init
loop-line-init g c = mixed_none (shown c.args.row c.args.fabric.now) c.args.lines.now

pub loop-line-preserved : goal.loop-line-preserved
loop-line-preserved g c =
    mixed_next (shown c.args.row c.args.fabric.now) c.args.lines.now c.loop-line.lines c.loop-line.line-index c.line-item.result c.show.new.self c.loop-line-test.true
    c.loop-line.invariant c.line-item.is (c.in_ok-show.ensures ∙ ap (shown c.args.row c.args.fabric.now) (sym c.line-item.is))

pub returns : goal.returns
returns g c = mixed_all (shown c.args.row c.args.fabric.now) c.args.lines.now c.loop-line.lines c.loop-line.line-index c.loop-line-test.false c.loop-line.invariant
