use Rattle.std.proofs.Common.{◌≡◌, ◌++◌, OnOk, subst, sym}
use Rattle.svg_text.specs.Shapes.{shapes_text}
use Rattle.chart_rows.specs.declared.layout.Parts.{Parts}
use Rattle.chart_page.specs.Look.{left_names_of}
use Rattle.chart_page.proofs.heading.put_left_names.Goals as goal

pub returns-in-Requester : goal.returns-in-Requester
returns-in-Requester c =
    subst (λ (p : Parts). OnOk c.put_requester_name.result (c.put_requester_name.new.out.items ≡ c.args.out.now.items ++ shapes_text (left_names_of p c.args.frame c.args.y)))
    (sym c.in-Requester.is) c.put_requester_name.ensures
