-- How arrows, marks and texts look, for the curious: lines, squares and letters, pixel by pixel. Marks.antt says what is
-- drawn of a row.
use Rattle.std.specs.Prelude.{ℕ, ◌+◌, ◌-◌, ◌*◌, ◌==◌, nat_lt, Bool, true, false, if◌then◌else◌, List, [], ◌∷◌, ◌++◌, length, codes, Option, Some, None}
use Rattle.lane_core.specs.declared.packet.Fate.{Fate}
use Rattle.lane_core.specs.declared.packet.Fate.TheVariants as fates
use Rattle.lane_core.specs.declared.packet.Arrival.{Arrival}
use Rattle.lane_core.specs.declared.packet.Arrival.TheVariants as arrivals
use Rattle.link_replay.specs.declared.receiver.Reception.TheVariants as receptions
use Rattle.svg_text.specs.declared.colour.Colour.{Colour}
use Rattle.svg_text.specs.declared.colour.Colour.TheVariants as colours
use Rattle.svg_text.specs.declared.shapes.Block.{Block}
use Rattle.svg_text.specs.declared.shapes.Rule.{Rule}
use Rattle.svg_text.specs.declared.shapes.Label.{Label}
use Rattle.svg_text.specs.Shapes.{Shape}
use Rattle.chart_rows.specs.declared.layout.Point.{Point}
use Rattle.chart_rows.specs.declared.layout.Way.{Way}
use Rattle.chart_marks.specs.declared.shapes.Pen.{Pen}
use Rattle.chart_marks.specs.declared.shapes.Tag.{Tag}
use Rattle.chart_marks.specs.declared.arrows.Stroke.{Stroke}
use Rattle.chart_marks.specs.declared.arrows.Stroke.TheVariants as lines
use Rattle.chart_rows.specs.declared.row.Kind.{Kind}
use Rattle.chart_rows.specs.declared.row.Kind.TheVariants as requests
use Rattle.chart_rows.specs.declared.row.Carried.{Carried}
use Rattle.chart_rows.specs.declared.row.PacketSent.{PacketSent}
use Rattle.chart_rows.specs.Layout.{text_width, top_of, text_line, departure, middle, other, behind, thirds, point}
use Rattle.chart_rows.specs.Words as said

-- ---- lines and squares

abbrev pub pen : Colour → ℕ → ℕ → Pen
pen colour thickness dash = record { colour = colour; thickness = thickness; dash = dash }

abbrev pub rule : Pen → Point → Point → Rule
rule p from to = record { left = from.x; top = from.y; right = to.x; bottom = to.y; colour = p.colour; thickness = p.thickness; dash = p.dash }

-- a line with a title
abbrev pub line : Pen → Point → Point → List ℕ → Shape
line p from to title = Shape.Lined (rule p from to ∷ []) title

abbrev pub two : Rule × Rule → List Rule
two ends = ends.0 ∷ ends.1 ∷ []

-- lines with one title
abbrev pub three : Rule → Rule × Rule → List ℕ → Shape
three shaft ends title = Shape.Lined (shaft ∷ two ends) title

abbrev pub block_at : ℕ → ℕ → ℕ → ℕ → Colour → Colour → ℕ → Block
block_at left top right bottom fill edge thickness = record { left = left; top = top; right = right; bottom = bottom; fill = fill; edge = edge; thickness = thickness; is_open = false }

abbrev pub square_block : Point → Colour → Block
square_block p fill = block_at (p.x - 5) (p.y - 5) (p.x + 5) (p.y + 5) fill colours.Black 1

-- a square round a point, and what is shown where one points at it
abbrev pub square : Point → Colour → List ℕ → Shape
square p fill words = Shape.Filled (square_block p fill) words

abbrev pub label_at : ℕ → ℕ → Colour → Label
label_at x y colour = record { x = x; y = y; size = 12; colour = colour; is_centred = false }

-- ---- arrows

-- the line of a packet that arrived so
abbrev pub packet_stroke : Arrival → Stroke
packet_stroke (arrivals.Answered receptions.Accept) = lines.Packet
packet_stroke (arrivals.Answered receptions.Duplicate) = lines.Duplicate
packet_stroke (arrivals.Answered receptions.NakNow) = lines.NotAccepted
packet_stroke (arrivals.Answered receptions.Quiet) = lines.NotAccepted
packet_stroke arrivals.Gone = lines.Packet

-- a duplicate's line is dashed, and the line of a packet that arrives and isn't accepted is red
abbrev pub pen_of : Stroke → Pen
pen_of lines.Packet = pen colours.Black 2 0
pen_of lines.Duplicate = pen colours.Black 2 6
pen_of lines.NotAccepted = pen colours.Red 2 0
pen_of lines.Dllp = pen colours.Grey 1 0

abbrev pub open_pen : Pen
open_pen = pen colours.Grey 1 3

abbrev pub whole : Pen → Pen
whole p = pen p.colour p.thickness 0

-- the tip of an arrow has two short lines, by how steep the arrow is
abbrev pub flat_tip : Pen → Bool → Point → Rule × Rule
flat_tip p is_right to = (rule p (point (behind is_right to.x 9) (to.y - 5)) to, rule p (point (behind is_right to.x 9) (to.y + 5)) to)

abbrev pub slanted_tip : Pen → Bool → Point → Rule × Rule
slanted_tip p is_right to = (rule p (point (behind is_right to.x 10) (to.y - 3)) to, rule p (point (behind is_right to.x 3) (to.y - 10)) to)

abbrev pub steep_tip : Pen → Point → Rule × Rule
steep_tip p to = (rule p (point (to.x - 5) (to.y - 9)) to, rule p (point (to.x + 5) (to.y - 9)) to)

abbrev pub across : Point → Point → ℕ
across from to = (to.x - from.x) + (from.x - to.x)

abbrev pub tip : Pen → Bool → Point → Point → Rule × Rule
tip p is_right from to =
    if nat_lt (2 * (to.y - from.y)) (across from to) then flat_tip p is_right to
    else (if nat_lt (2 * across from to) (to.y - from.y) then steep_tip p to else slanted_tip p is_right to)

abbrev pub cross : Point → Rule × Rule
cross p =
    (rule (pen colours.Red 2 0) (point (p.x - 6) (p.y - 6)) (point (p.x + 6) (p.y + 6)), rule (pen colours.Red 2 0) (point (p.x - 6) (p.y + 6)) (point (p.x + 6) (p.y - 6)))

abbrev pub failed : Point → Shape
failed p = square p colours.Red (codes "failed")

-- what arrives has a tip, what fails its check a red square, and what is lost a cross
abbrev pub ended : Fate → Pen → Bool → Point → Point → List ℕ → List Shape
ended fates.Good p is_right from to title = three (rule p from to) (tip (whole p) is_right from to) title ∷ []
ended fates.Failed p is_right from to title = line p from to title ∷ failed to ∷ []
ended fates.Lost p is_right from to title = three (rule p from to) (cross to) title ∷ []

abbrev pub is_lost : Fate → Bool
is_lost fates.Lost = true
is_lost _ = false

-- the first third of the way of what isn't seen to arrive
abbrev pub open_line : Way → ℕ → List ℕ → Shape
open_line w row title = line open_pen (point w.from (departure row)) (point (thirds w 1) (departure row + 5)) title

-- ---- texts beside a line

abbrev pub indent : Option Kind → ℕ
indent None = 12
indent (Some kind) = 28

-- where the text begins
abbrev pub text_left : Tag → List ℕ → ℕ
text_left t words = if t.is_right then t.x + indent t.kind else t.x - text_width (length words) - indent t.kind

-- white below the text
abbrev pub plate : Tag → List ℕ → Block
plate t words = block_at (text_left t words - 2) (top_of t.row + 3) (text_left t words + text_width (length words) + 2) (top_of t.row + 17) colours.White colours.White 0

abbrev pub kind_x : Tag → ℕ
kind_x t = if t.is_right then t.x + 18 else t.x - 18

abbrev pub kind_colour : Kind → Colour
kind_colour requests.Read = colours.SkyBlue
kind_colour requests.Write = colours.Orange
kind_colour requests.Add = colours.Green
kind_colour requests.Swap = colours.Yellow
kind_colour requests.Cas = colours.Purple

-- the colour of the kind of what is carried
abbrev pub kind_square : Tag → Option Kind → List Shape
kind_square t None = []
kind_square t (Some kind) = square (point (kind_x t) (middle t.row)) (kind_colour kind) (said.kind_name kind) ∷ []

abbrev pub tag_shapes : Tag → List ℕ → List Shape
tag_shapes t words =
    Shape.Filled (plate t words) words ∷ Shape.Written (label_at (text_left t words) (text_line t.row) t.colour) words ∷ kind_square t t.kind

abbrev pub tag : ℕ → Bool → ℕ → Option Kind → Colour → Tag
tag x is_right row kind colour = record { x = x; is_right = is_right; row = row; kind = kind; colour = colour }

abbrev pub kind_in : Option Carried → Option Kind
kind_in None = None
kind_in (Some c) = Some c.kind

-- ---- what is said of an event at a line

-- a dot on a line, and a text at its right
abbrev pub mark : ℕ → ℕ → Option Kind → List ℕ → List Shape
mark x row kind words = Shape.Dotted (record { x = x; y = middle row }) words ∷ tag_shapes (tag x true row kind colours.Black) words

-- a grey square at the beginning of a way, and a text on that side
abbrev pub notice : Way → ℕ → List ℕ → List Shape
notice w row words = square (point w.from (middle row)) colours.Grey words ∷ tag_shapes (tag w.from w.is_right row None colours.Black) words

-- a text at the beginning of a way
abbrev pub departing : Way → ℕ → Option Kind → List ℕ → List Shape
departing w row kind words = tag_shapes (tag w.from w.is_right row kind colours.Black) words

-- beyond the line at the end of a way, and before it where something was lost
abbrev pub remark_side : Way → Fate → Bool
remark_side w fate = if is_lost fate then other w.is_right else w.is_right

abbrev pub remark_tag : Way → ℕ → Fate → Colour → Tag
remark_tag w row fate colour = tag w.to (remark_side w fate) row None colour

-- a text at the end of a way, if there is something to say
abbrev pub remark : Tag → List ℕ → List Shape
remark t words = if length words == 0 then [] else tag_shapes t words

-- whether something arrives more than twelve rows below its sending
abbrev pub is_far : Option ℕ → ℕ → Bool
is_far None row = false
is_far (Some sent) row = nat_lt (sent + 12) row

abbrev pub far_words : Option PacketSent → ℕ → List ℕ
far_words None row = []
far_words (Some p) row = if is_far p.row row then said.sent_words p.number None else []

-- what is said of a packet's arrival: if nothing else is, the number of one that comes from far
abbrev pub arrived_words : Fate → Arrival → Option PacketSent → ℕ → List ℕ
arrived_words fate arrival sent row = if length (said.arrival_words fate arrival) == 0 then far_words sent row else said.arrival_words fate arrival

-- what is wrong is told in red
abbrev pub arrival_colour : Fate → Arrival → Colour
arrival_colour fates.Good (arrivals.Answered receptions.NakNow) = colours.Red
arrival_colour fates.Good (arrivals.Answered receptions.Quiet) = colours.Red
arrival_colour fates.Good _ = colours.Black
arrival_colour fates.Failed _ = colours.Red
arrival_colour fates.Lost _ = colours.Red

abbrev pub arrived : Way → ℕ → Fate → Arrival → Option PacketSent → List Shape
arrived w row fate arrival sent = remark (remark_tag w row fate (arrival_colour fate arrival)) (arrived_words fate arrival sent row)

-- what goes well is told in black
abbrev pub remark_colour : Fate → Colour
remark_colour fates.Good = colours.Black
remark_colour _ = colours.Red
