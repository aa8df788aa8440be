use Rattle.std.proofs.Common.{◌≡◌, ◌∙◌, ◌++◌, ◌<◌, ℕ, List, length, take, sym, ap, Option, arith}
use Rattle.std.specs.Prelude.{replicate}
use Rattle.chart_rows.specs.declared.row.PacketSent.{PacketSent}
use Rattle.chart_links.specs.CourseView.{quiet}
use Rattle.chart_links.specs.ChartView.{ChartView, new_chart}
use Rattle.chart_laws.specs.Arrows.{beginnings, sendings}
use Rattle.chart_laws.proofs.Wires.{arrows, nothing_sent}
use Rattle.chart_laws.proofs.arrows_begin_where_packets_were_sent.Goals as goal

pub returns : goal.returns
returns c = λ window requesters lane tales below never.
    let v : ChartView = new_chart window requesters in
    let empty = nothing_sent 16 lane in
    arrows tales lane 0 v below (sym (ap (λ (t : List (Option PacketSent)). length t) empty)) never
    ∙ ap (λ (t : List (Option PacketSent)). take (length (beginnings lane v tales)) (t ++ sendings lane v tales)) empty
