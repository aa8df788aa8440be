-- What a chart shows: a row for each event, with what is drawn of it (chart_marks, Marks.antt), below a legend.
--
-- What a reader may count on is said elsewhere, and proved of these definitions:
-- - the text is one well-formed document of XML, whatever is shown (chart_engine, `charts_are_well_formed`);
-- - an arrow is of the packet that was sent, and begins in the row of its sending (chart_arrows,
--   `arrows_are_of_the_packets_sent`);
-- - the rows are of events that happened, one after the other, to a new fabric (chart_engine,
--   `charts_show_what_happened`);
-- - the legend has an entry for what the rows show, and for nothing else (Legend.antt).
-- How the parts look, pixel by pixel, is in Look.antt, for the curious.
use Rattle.std.specs.Prelude.{ℕ, ◌+◌, ◌/◌, ◌==◌, ◌&&◌, ◌||◌, nat_le, Bool, true, false, if◌then◌else◌, List, [], ◌∷◌, ◌++◌, length, Option, Some, None}
use Rattle.std.specs.Fmt.{decimal}
use Rattle.svg_text.specs.declared.colour.Colour.TheVariants as colours
use Rattle.svg_text.specs.Shapes.{Shape, page_text}
use Rattle.chart_rows.specs.declared.layout.Frame.{Frame}
use Rattle.chart_rows.specs.declared.layout.Point.{Point}
use Rattle.chart_rows.specs.declared.row.Row.{Row}
use Rattle.chart_rows.specs.declared.row.Open.{Open}
use Rattle.chart_rows.specs.PageView.{PageView}
use Rattle.chart_rows.specs.Layout.{point, width_of, top_of, text_line}
use Rattle.chart_rows.specs.Words as said
use Rattle.chart_marks.specs.Look.{label_at}
use Rattle.chart_marks.specs.Marks.{strokes, open_stroke, note}
use Rattle.chart_page.specs.declared.page.Band.{Band}
use Rattle.chart_page.specs.Look.{row_colour, band_block, title_label, columns, stripes, grey_text}
use Rattle.chart_page.specs.Legend.{legend, legend_end}

-- ---- rows

-- white, and what is shown where one points at it
abbrev pub white : Band → Row → Shape
white b r = Shape.Filled (band_block b.frame b.row) (said.row_words r)

-- the number of a line stands once
abbrev pub number : Band → ℕ → List Shape
number b line = if b.is_under then [] else Shape.Written (label_at 10 (text_line b.row) colours.Grey) (decimal line) ∷ []

-- the events of a `settle` stand further right
abbrev pub event_left : Bool → ℕ
event_left is_under = if is_under then 58 else 44

abbrev pub event_said : Band → Row → Shape
event_said b r = Shape.Written (label_at (event_left b.is_under) (text_line b.row) (row_colour r.deed)) (said.shortened 25 (said.event_words r.said))

abbrev pub result_said : Band → Row → Shape
result_said b r = Shape.Written (label_at 236 (text_line b.row) (row_colour r.deed)) (said.shortened 44 (said.result_words r.said))

-- the event, what was seen of it or why it was refused, and the number of the line
abbrev pub texts : Band → Row → List Shape
texts b r = event_said b r ∷ result_said b r ∷ number b r.line

abbrev pub band : Band → Row → List Shape
band b r = white b r ∷ texts b r

-- whether a row is of the line that the row above it has: then that line is a `settle`
abbrev pub is_under : Option ℕ → ℕ → Bool
is_under None line = false
is_under (Some above) line = above == line

abbrev pub band_at : Frame → Option ℕ → ℕ → Row → Band
band_at frame above row r = record { frame = frame; row = row; is_under = is_under above r.line }

abbrev pub bands : Frame → Option ℕ → ℕ → List Row → List Shape
bands frame above row [] = []
bands frame above row (r ∷ rs) = band (band_at frame above row r) r ++ bands frame (Some r.line) (row + 1) rs

abbrev pub row_strokes : Frame → ℕ → Row → List Shape
row_strokes frame row r = strokes frame row r.deed

abbrev pub row_note : Frame → ℕ → Row → List Shape
row_note frame row r = note frame row r.said r.deed

-- the shapes of each, from this row on
abbrev pub each : (ℕ → Row → List Shape) → ℕ → List Row → List Shape
each shapes row [] = []
each shapes row (r ∷ rs) = shapes row r ++ each shapes (row + 1) rs

abbrev pub open_strokes : Frame → List Open → List Shape
open_strokes frame [] = []
open_strokes frame (o ∷ os) = open_stroke frame o ∷ open_strokes frame os

-- ---- what isn't shown

-- what is left out stands beside a short legend, and below a long one
abbrev pub omitted_place : ℕ → Point
omitted_place end = if nat_le end 560 then point end 40 else point 10 56

abbrev pub omitted_said : Point → ℕ → List Shape
omitted_said at count = if count == 0 then [] else grey_text at.x at.y (said.omitted_words count)

-- which rows are shown stands below the legend, and beside what else stands there
abbrev pub shown_left : ℕ → ℕ → ℕ
shown_left end omitted = if nat_le end 560 || (omitted == 0) then 10 else 630

abbrev pub rows_said : ℕ → ℕ → ℕ → ℕ → List Shape
rows_said x before rows after = if (before == 0) && (after == 0) then [] else grey_text x 56 (said.shown_words (said.shown_of before rows after))

-- ---- the whole page

-- where the rows end
abbrev pub bottom_of : List Row → ℕ
bottom_of rows = top_of (length rows)

-- arrows lie above the lines of the parts, and texts above both
abbrev pub body : Frame → List Row → List Open → List Shape
body frame rows opens =
    bands frame None 0 rows
    ++ (columns frame (bottom_of rows + 6)
    ++ (stripes frame (length rows / 40)
    ++ (each (row_strokes frame) 0 rows
    ++ (open_strokes frame opens
    ++ each (row_note frame) 0 rows))))

-- the legend, what is left out, and which rows are shown
abbrev pub heading : PageView → List Shape
heading p =
    legend p.rows p.opens
    ++ (omitted_said (omitted_place (legend_end p.rows p.opens)) p.omitted
    ++ rows_said (shown_left (legend_end p.rows p.opens) p.omitted) p.before (length p.rows) p.after)

abbrev pub shapes : PageView → Bool → List ℕ → List Shape
shapes p is_red title = Shape.Written (title_label is_red) title ∷ (heading p ++ body p.frame p.rows p.opens)

-- the text of a chart below a line
abbrev pub chart_text : PageView → Bool → List ℕ → List ℕ
chart_text p is_red title = page_text (width_of p.frame) (bottom_of p.rows + 30) (shapes p is_red title)

abbrev pub title : Bool → List ℕ → List Shape
title is_red words = Shape.Written (title_label is_red) words ∷ []

-- the text of a chart that has the line alone
abbrev pub title_text : Bool → List ℕ → List ℕ
title_text is_red words = page_text 640 40 (title is_red words)
