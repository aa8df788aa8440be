-- What happened on the links of a fabric so far, as a chart.
use Rattle.std.specs.Prelude.{ℕ, ◌+◌, ◌-◌, ◌^◌, min, max, List, [], ◌∷◌, ◌++◌, length, replicate, Option, Some, None, Result, Ok, Err}
use Rattle.fabric_steps.specs.Event.{Event, Seen}
use Rattle.fabric_steps.specs.declared.event.LaneName.{LaneName}
use Rattle.fabric_steps.specs.declared.fault.Refusal.{Refusal}
use Rattle.chart_rows.specs.declared.row.Said.TheVariants as saids
use Rattle.chart_rows.specs.declared.row.Row.{Row}
use Rattle.chart_rows.specs.declared.row.PacketSent.{PacketSent}
use Rattle.chart_rows.specs.declared.row.DllpSent.{DllpSent}
use Rattle.chart_rows.specs.declared.row.Flying.{Flying}
use Rattle.chart_rows.specs.declared.row.Flying.TheVariants as flying
use Rattle.chart_rows.specs.declared.row.Open.{Open}
use Rattle.chart_rows.specs.declared.row.Deed.{Deed}
use Rattle.chart_rows.specs.declared.row.Deed.TheVariants as deeds
use Rattle.chart_rows.specs.PageView.{PageView}
use Rattle.chart_links.specs.declared.window.ChartWindow.{ChartWindow}
use Rattle.chart_links.specs.declared.window.Place.{Place}
use Rattle.chart_links.specs.declared.window.Place.TheVariants as places
use Rattle.chart_rows.specs.declared.layout.Parts.{Parts}
use Rattle.chart_rows.specs.declared.layout.Frame.{Frame}
use Rattle.chart_rows.specs.Layout.{first_line}
use Rattle.chart_rows.specs.Words.{letters_of}
use Rattle.chart_links.specs.Window.{place_in, place_of, is_omitted, unless_omitted, absent_words, parts_of}
use Rattle.chart_links.specs.CourseView.{CourseView, quiet}
use Rattle.chart_links.specs.Lanes.{Moved, followed, lane_at}
use Rattle.chart_links.specs.News.{tells_nothing}

pub record ChartView : Type 0 where
  pub window : ChartWindow
  pub requesters : ℕ
  -- `in`, `up1` to `up7`, `out`, `down1` to `down7`
  pub courses : List CourseView
  pub page : PageView

-- a result has place for 16 letters at least
abbrev pub empty_page : Parts → PageView
empty_page parts = record { frame = record { parts = parts; left = 0 }; letters = 16; rows = []; opens = []; before = 0; after = 0; omitted = 0 }

-- a fabric with so many requesters, to which nothing has happened
abbrev pub new_chart : ChartWindow → ℕ → ChartView
new_chart window requesters = record { window = window; requesters = requesters; courses = replicate 16 quiet; page = empty_page (parts_of window.lane requesters) }

-- ---- where an event goes

-- a count of 64 bits
abbrev pub one_more : ℕ → ℕ
one_more n = min (n + 1) (2 ^ 64 - 1)

-- the row of an event, if it is shown
abbrev pub row_at : Place → ℕ → Option ℕ
row_at places.Shown row = Some row
row_at _ row = None

-- where an event goes of which this is seen
abbrev pub place_for : ChartView → ℕ → Event → Seen → Place
place_for v line event what = unless_omitted (is_omitted v.window (tells_nothing v.courses event what)) (place_of v.window (length v.page.rows) line event)

-- one row more that isn't shown, before the rows, after them, or as it tells nothing new
abbrev pub counted : Place → PageView → PageView
counted places.Before p = record p { before = one_more p.before }
counted places.After p = record p { after = one_more p.after }
counted places.Omitted p = record p { omitted = one_more p.omitted }
counted _ p = p

-- ---- what is drawn

abbrev pub opened_at : LaneName → Flying → Option ℕ → List Open
opened_at lane what None = []
opened_at lane what (Some row) = record { lane = lane; what = what; row = row } ∷ []

abbrev pub opened_packet : LaneName → PacketSent → List Open
opened_packet lane p = opened_at lane (flying.Packet p.number p.carried) p.row

abbrev pub opened_dllp : LaneName → DllpSent → List Open
opened_dllp lane d = opened_at lane (flying.Dllp d.dllp) d.row

-- what was sent in a row that is shown, and arrives in one that isn't
abbrev pub opened : Deed → List Open
opened (deeds.Arrived lane fate arrival (Some p)) = opened_packet lane p
opened (deeds.ArrivedDllp lane fate (Some d) replay) = opened_dllp lane d
opened _ = []

-- a row more, and its result has its place
abbrev pub with_row : Row → PageView → PageView
with_row r p = record p { rows = p.rows ++ r ∷ []; letters = max p.letters (letters_of r.said) }

-- an event gets a row, or it ends what was sent in one
abbrev pub drawn : Option ℕ → Row → PageView → PageView
drawn (Some row) r p = with_row r p
drawn None r p = record p { opens = p.opens ++ opened r.deed }

abbrev pub row_of : ℕ → Event → Result Seen Refusal → Deed → Row
row_of line event outcome deed = record { line = line; said = saids.Event event outcome; deed = deed }

abbrev pub follows : ChartView → Place → ℕ → Event → Seen → Moved → ChartView
follows v place line event what m = record v {
  courses = m.courses;
  page = drawn (row_at place (length v.page.rows)) (row_of line event (Ok what) m.deed) (counted place v.page);
}

abbrev pub placed : ChartView → Place → ℕ → Event → Seen → ChartView
placed v place line event what = follows v place line event what (followed v.courses (row_at place (length v.page.rows)) event what)

-- the row of an event of which this is seen, if it is shown
abbrev pub row_for : ChartView → ℕ → Event → Seen → Option ℕ
row_for v line event what = row_at (place_for v line event what) (length v.page.rows)

-- so many rows, with that of an event if it has one
abbrev pub rows_with : Option ℕ → ℕ → ℕ
rows_with None n = n
rows_with (Some row) n = n + 1

-- of one that is refused
abbrev pub refused_row : ChartView → ℕ → Event → Option ℕ
refused_row v line event = row_at (place_of v.window (length v.page.rows) line event) (length v.page.rows)

-- an event of that line of the script happened, and this was seen of it
abbrev pub charted : ChartView → ℕ → Event → Seen → ChartView
charted v line event what = placed v (place_for v line event what) line event what

abbrev pub refused_at : ChartView → Place → ℕ → Event → Refusal → ChartView
refused_at v place line event r = record v {
  page = drawn (row_at place (length v.page.rows)) (row_of line event (Err r) deeds.Nothing) (counted place v.page);
}

-- it was refused
abbrev pub refused : ChartView → ℕ → Event → Refusal → ChartView
refused v line event r = refused_at v (place_of v.window (length v.page.rows) line event) line event r

-- a `settle`, whose events follow
abbrev pub head_of : ℕ → Row
head_of line = record { line = line; said = saids.Settle; deed = deeds.Settles }

-- the row of a `settle` of that line, if it is shown
abbrev pub head_row : ChartView → ℕ → Option ℕ
head_row v line = row_at (place_in v.window (length v.page.rows) line) (length v.page.rows)

abbrev pub headed_at : ChartView → Place → ℕ → ChartView
headed_at v place line = record v { page = drawn (row_at place (length v.page.rows)) (head_of line) (counted place v.page) }

-- that line of the script is a `settle`
abbrev pub headed : ChartView → ℕ → ChartView
headed v line = headed_at v (place_in v.window (length v.page.rows) line) line

-- ---- the end

-- what is still on a wire
abbrev pub left_of_wire : LaneName → List PacketSent → List Open
left_of_wire lane [] = []
left_of_wire lane (p ∷ ps) = opened_packet lane p ++ left_of_wire lane ps

abbrev pub left_of_back : LaneName → List DllpSent → List Open
left_of_back lane [] = []
left_of_back lane (d ∷ ds) = opened_dllp lane d ++ left_of_back lane ds

abbrev pub left_of : LaneName → CourseView → List Open
left_of lane c = left_of_wire lane c.wire ++ left_of_back lane c.back

-- on the wires of each lane, from this place of the list on
abbrev pub left : ℕ → List CourseView → List Open
left place [] = []
left place (c ∷ cs) = left_of (lane_at place) c ++ left (place + 1) cs

-- the first line stands behind so many step lines
abbrev pub framed : ℕ → PageView → Frame
framed levels p = record { parts = p.frame.parts; left = first_line p.letters levels }

abbrev pub with_left : List CourseView → ℕ → PageView → PageView
with_left cs levels p = record p { frame = framed levels p; opens = p.opens ++ left 0 cs }

-- the page of a chart with so many step lines
abbrev pub page_of : ChartView → ℕ → PageView
page_of v levels = with_left v.courses levels v.page

-- the line above a chart
abbrev pub titled : ChartView → List ℕ → List ℕ
titled v title = title ++ absent_words v.window.lane v.requesters
