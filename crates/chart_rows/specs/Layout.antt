-- Where the parts of a fabric and the rows of a chart stand, in pixels from the left and from the top.
use Rattle.std.specs.Prelude.{ℕ, ◌+◌, ◌-◌, ◌*◌, ◌/◌, min, max, Bool, true, false, if◌then◌else◌, nat_lt, Option, Some, None}
use Rattle.fabric_steps.specs.declared.event.LaneName.{LaneName}
use Rattle.fabric_steps.specs.declared.event.LaneName.TheVariants as lanes
use Rattle.chart_rows.specs.declared.layout.Parts.{Parts}
use Rattle.chart_rows.specs.declared.layout.Parts.TheVariants as parts
use Rattle.chart_rows.specs.declared.layout.Frame.{Frame}
use Rattle.chart_rows.specs.declared.layout.Point.{Point}
use Rattle.chart_rows.specs.declared.layout.Way.{Way}

-- letters of 12 pixels are seven and a quarter wide
abbrev pub text_width : ℕ → ℕ
text_width letters = letters * 29 / 4

-- the results stand 236 pixels from the left, and behind the longest of them the step lines
abbrev pub levels_left : ℕ → ℕ
levels_left letters = 236 + text_width (min letters 44) + 16

-- a step line is 64 pixels wide, and so is the white behind them; more than 500 would lie above each other
abbrev pub levels_width : ℕ → ℕ
levels_width count = 64 * (min count 500 + min count 1)

-- behind them stands the first line of a part
abbrev pub first_line : ℕ → ℕ → ℕ
first_line letters levels = levels_left letters + levels_width levels + 84

-- the lines of the requesters, from port 1 on, then that of the switch and that of the memory; of one lane, those of its
-- two ends
abbrev pub requester_at : Parts → ℕ → ℕ → ℕ
requester_at (parts.All requesters) left port = left + 170 * (port - 1)
requester_at _ left port = left

abbrev pub requester_x : Frame → ℕ → ℕ
requester_x f port = requester_at f.parts f.left port

abbrev pub switch_at : Parts → ℕ → ℕ
switch_at (parts.All requesters) left = left + 170 * requesters
switch_at (parts.Requester port) left = left + 170
switch_at parts.Memory left = left

abbrev pub switch_x : Frame → ℕ
switch_x f = switch_at f.parts f.left

abbrev pub memory_x : Frame → ℕ
memory_x f = switch_x f + 170

abbrev pub last_of : Parts → ℕ → ℕ → ℕ
last_of (parts.Requester port) switch memory = switch
last_of _ switch memory = memory

abbrev pub last_x : Frame → ℕ
last_x f = last_of f.parts (switch_x f) (memory_x f)

-- the last line, and what is written beside it; a legend has its place in 1,200 pixels
abbrev pub width_of : Frame → ℕ
width_of f = max (last_x f + 240) 1200

-- a row is 20 pixels high, and so is the stripe with the names of the lines below each 40 rows; an arrow ends in the
-- middle of its row, and begins below the row's text
abbrev pub top_of : ℕ → ℕ
top_of row = 96 + 20 * (row + row / 40)

abbrev pub text_line : ℕ → ℕ
text_line row = top_of row + 14

abbrev pub departure : ℕ → ℕ
departure row = top_of row + 18

abbrev pub middle : ℕ → ℕ
middle row = top_of row + 10

-- ---- ways from one line to another

abbrev pub way : ℕ → ℕ → Bool → Way
way from to is_right = record { from = from; to = to; is_right = is_right }

-- the way of packets on a lane
abbrev pub packet_way : Frame → LaneName → Way
packet_way f (lanes.Up port) = way (requester_x f port) (switch_x f) true
packet_way f (lanes.Down port) = way (switch_x f) (requester_x f port) false
packet_way f lanes.Inward = way (switch_x f) (memory_x f) true
packet_way f lanes.Outward = way (memory_x f) (switch_x f) false

-- and back
abbrev pub other : Bool → Bool
other is_right = if is_right then false else true

abbrev pub back : Way → Way
back w = way w.to w.from (other w.is_right)

-- the way of DLLPs, or of packets
abbrev pub way_of : Frame → LaneName → Bool → Way
way_of f lane is_dllp = if is_dllp then back (packet_way f lane) else packet_way f lane

-- a place that lies so far behind x for one who goes that way
abbrev pub behind : Bool → ℕ → ℕ → ℕ
behind is_right x distance = if is_right then x - distance else x + distance

-- the place so many thirds of the way from its beginning
abbrev pub thirds : Way → ℕ → ℕ
thirds w count = if w.is_right then w.from + (w.to - w.from) / 3 * count else w.from - (w.from - w.to) / 3 * count

abbrev pub point : ℕ → ℕ → Point
point x y = record { x = x; y = y }

-- where an arrow begins: in the row of its sending, or where that isn't shown a third of the way in that of its end
abbrev pub start_of : Way → Option ℕ → ℕ → Point
start_of w (Some sent) row = point w.from (departure sent)
start_of w None row = point (thirds w 1) (middle row)

-- it ends at the other line, and what is lost 80 pixels before that
abbrev pub finish_of : Way → Bool → ℕ → Point
finish_of w is_lost row = point (if is_lost then behind w.is_right w.to 80 else w.to) (middle row)
