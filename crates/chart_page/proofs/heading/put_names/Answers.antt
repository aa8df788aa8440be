use Rattle.std.specs.Prelude.{codes}
use Rattle.chart_rows.specs.Layout.{switch_x}
use Rattle.chart_page.specs.Look.{left_names, right_name, name}
use Rattle.chart_page.proofs.Steps.{both}
use Rattle.chart_page.proofs.heading.put_names.Goals as goal

pub returns : goal.returns
returns c =
    let n = c.args.frame in
    let y = c.args.y in
    let last = c.put_right_name.new.out.items in
    both c.args.out.now.items c.put_left_names.new.out.items last (left_names n y) _ c.in_ok-put_left_names.ensures
    (both c.put_left_names.new.out.items c.put_switch_name.new.out.items last (name (switch_x n) y (codes "switch")) (right_name n y)
    c.in_ok-put_switch_name.ensures c.in_ok-put_right_name.ensures)
