use Rattle.std.proofs.Common.{◌≡◌, ◌++◌, OnOk, subst, sym}
use Rattle.svg_text.specs.Shapes.{shapes_text}
use Rattle.chart_rows.specs.declared.layout.Parts.{Parts}
use Rattle.chart_page.specs.Look.{left_columns_of}
use Rattle.chart_page.proofs.heading.put_left_columns.Goals as goal

pub returns-in-Requester : goal.returns-in-Requester
returns-in-Requester c =
    subst (λ (p : Parts). OnOk c.put_requester_column.result (c.put_requester_column.new.out.items ≡ c.args.out.now.items ++ shapes_text (left_columns_of p c.args.frame c.args.bottom)))
    (sym c.in-Requester.is) c.put_requester_column.ensures
