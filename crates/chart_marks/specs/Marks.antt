-- What is drawn of a row of a chart: an arrow for each packet and DLLP, and marks with their texts.
use Rattle.std.specs.Prelude.{ℕ, Bool, true, false, List, [], codes, Option, Some, None}
use Rattle.lane_core.specs.declared.packet.Fate.{Fate}
use Rattle.svg_text.specs.Shapes.{Shape}
use Rattle.chart_rows.specs.declared.layout.Frame.{Frame}
use Rattle.chart_rows.specs.declared.layout.Way.{Way}
use Rattle.chart_rows.specs.declared.row.Kind.{Kind}
use Rattle.chart_rows.specs.declared.row.Said.{Said}
use Rattle.chart_rows.specs.declared.row.Deed.{Deed}
use Rattle.chart_rows.specs.declared.row.Deed.TheVariants as deeds
use Rattle.chart_rows.specs.declared.row.PacketSent.{PacketSent}
use Rattle.chart_rows.specs.declared.row.DllpSent.{DllpSent}
use Rattle.chart_rows.specs.declared.row.Flying.{Flying}
use Rattle.chart_rows.specs.declared.row.Flying.TheVariants as flying
use Rattle.chart_rows.specs.declared.row.Open.{Open}
use Rattle.chart_rows.specs.Layout.{requester_x, switch_x, memory_x, way_of, start_of, finish_of}
use Rattle.chart_rows.specs.Words as said
use Rattle.chart_rows.specs.Titles as titles
use Rattle.chart_marks.specs.declared.shapes.Pen.{Pen}
use Rattle.chart_marks.specs.declared.arrows.Arrow.{Arrow}
use Rattle.chart_marks.specs.declared.arrows.Stroke.{Stroke}
use Rattle.chart_marks.specs.declared.arrows.Stroke.TheVariants as lines
use Rattle.chart_marks.specs.Look.{packet_stroke, pen_of, ended, is_lost, open_line, kind_in, mark, notice, departing, remark, remark_tag, remark_colour, arrived}

-- ---- arrows

abbrev pub arrow_on : Way → Pen → Fate → Option ℕ → ℕ → Arrow
arrow_on w p fate sent row = record { way = w; pen = p; fate = fate; sent = sent; row = row }

-- an arrow from the row in which something was sent, where that is shown, to the row in which it arrived or was lost
abbrev pub arrow : Arrow → List ℕ → List Shape
arrow a title = ended a.fate a.pen a.way.is_right (start_of a.way a.sent a.row) (finish_of a.way (is_lost a.fate) a.row) title

abbrev pub packet_row : Option PacketSent → Option ℕ
packet_row None = None
packet_row (Some p) = p.row

abbrev pub dllp_row : Option DllpSent → Option ℕ
dllp_row None = None
dllp_row (Some d) = d.row

-- what the line of the arrow is that ends in a row of this deed, and how it ends, if there is one
abbrev pub stroke_of : Deed → Option Stroke
stroke_of (deeds.Arrived lane fate arrival sent) = Some (packet_stroke arrival)
stroke_of (deeds.ArrivedDllp lane fate sent replay) = Some lines.Dllp
stroke_of _ = None

abbrev pub end_of : Deed → Option Fate
end_of (deeds.Arrived lane fate arrival sent) = Some fate
end_of (deeds.ArrivedDllp lane fate sent replay) = Some fate
end_of _ = None

-- that arrow
abbrev pub strokes : Frame → ℕ → Deed → List Shape
strokes frame row (deeds.Arrived lane fate arrival sent) =
    arrow (arrow_on (way_of frame lane false) (pen_of (packet_stroke arrival)) fate (packet_row sent) row) (titles.packet_title lane sent fate arrival)
strokes frame row (deeds.ArrivedDllp lane fate sent replay) =
    arrow (arrow_on (way_of frame lane true) (pen_of lines.Dllp) fate (dllp_row sent) row) (titles.dllp_title lane sent fate replay)
strokes frame row _ = []

abbrev pub is_dllp : Flying → Bool
is_dllp (flying.Packet number c) = false
is_dllp (flying.Dllp dllp) = true

abbrev pub open_stroke : Frame → Open → Shape
open_stroke frame o = open_line (way_of frame o.lane (is_dllp o.what)) o.row (titles.open_title o)

-- ---- what is said of an event at a line

abbrev pub note : Frame → ℕ → Said → Deed → List Shape
note frame row s deeds.Nothing = []
note frame row s deeds.Settles = []
note frame row s (deeds.Submitted port c) = mark (requester_x frame port) row (Some c.kind) (said.submitted_words c)
note frame row s (deeds.Sent lane number c) = departing (way_of frame lane false) row (kind_in c) (said.sent_words number c)
note frame row s (deeds.Arrived lane fate arrival sent) = arrived (way_of frame lane false) row fate arrival sent
note frame row s (deeds.SentDllp lane dllp) = departing (way_of frame lane true) row None (said.dllp_words dllp)
note frame row s (deeds.ArrivedDllp lane fate sent replay) =
    remark (remark_tag (way_of frame lane true) row fate (remark_colour fate)) (said.dllp_arrival_words fate replay)
note frame row s (deeds.Expired lane replay) = notice (way_of frame lane false) row (said.expired_words replay)
note frame row s (deeds.Retrained lane) = notice (way_of frame lane false) row (codes "link retrained")
note frame row s (deeds.Forwarded c) = mark (switch_x frame) row (kind_in c) (said.forwarded_words c)
note frame row s (deeds.Served c index) = mark (memory_x frame) row (kind_in c) (said.served_words c index)
note frame row s (deeds.Collected port c) = mark (requester_x frame port) row (kind_in c) (said.collected_words c s)

-- the kind whose colour stands beside that text
abbrev pub kind_shown : Deed → Option Kind
kind_shown (deeds.Submitted port c) = Some c.kind
kind_shown (deeds.Sent lane number c) = kind_in c
kind_shown (deeds.Forwarded c) = kind_in c
kind_shown (deeds.Served c index) = kind_in c
kind_shown (deeds.Collected port c) = kind_in c
kind_shown _ = None
