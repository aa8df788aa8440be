use Rattle.chart_page.specs.Look.{left_columns, switch_column, right_column}
use Rattle.chart_page.proofs.Steps.{both}
use Rattle.chart_page.proofs.heading.put_columns.Goals as goal

pub returns : goal.returns
returns c =
    let n = c.args.frame in
    let bottom = c.args.bottom in
    let last = c.put_right_column.new.out.items in
    both c.args.out.now.items c.put_left_columns.new.out.items last (left_columns n bottom) _ c.in_ok-put_left_columns.ensures
    (both c.put_left_columns.new.out.items c.put_switch_column.new.out.items last (switch_column n bottom) (right_column n bottom) c.in_ok-put_switch_column.ensures
    c.in_ok-put_right_column.ensures)
