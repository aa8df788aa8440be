-- What is shown.
use Rattle.std.specs.Prelude.{ℕ, ◌==◌, ◌&&◌, nat_lt, nat_le, Bool, true, false, if◌then◌else◌, List, [], Option, Some, None}
use Rattle.fabric_steps.specs.Event.{Event}
use Rattle.fabric_steps.specs.declared.event.EventOf.TheVariants as events
use Rattle.fabric_steps.specs.declared.event.LaneName.{LaneName}
use Rattle.fabric_steps.specs.declared.event.LaneName.TheVariants as lanes
use Rattle.chart_rows.specs.declared.layout.Parts.{Parts}
use Rattle.chart_rows.specs.declared.layout.Parts.TheVariants as parts
use Rattle.chart_rows.specs.Words as said
use Rattle.chart_links.specs.declared.window.ChartWindow.{ChartWindow}
use Rattle.chart_links.specs.declared.window.Place.{Place}
use Rattle.chart_links.specs.declared.window.Place.TheVariants as places

-- the lane that an event is of
abbrev pub lane_of : Event → Option LaneName
lane_of (events.Submit port op) = None
lane_of (events.Transmit lane) = Some lane
lane_of (events.Deliver lane fate) = Some lane
lane_of (events.SendDllp lane kind) = Some lane
lane_of (events.DeliverDllp lane fate) = Some lane
lane_of (events.Timer lane) = Some lane
lane_of (events.Retrained lane) = Some lane
lane_of (events.Forward lane place) = Some lane
lane_of (events.Serve place) = None
lane_of (events.Collect port) = None

abbrev pub is_same : LaneName → LaneName → Bool
is_same (lanes.Up port) (lanes.Up same) = port == same
is_same (lanes.Down port) (lanes.Down same) = port == same
is_same lanes.Inward lanes.Inward = true
is_same lanes.Outward lanes.Outward = true
is_same _ _ = false

abbrev pub is_of : LaneName → Option LaneName → Bool
is_of lane None = false
is_of lane (Some other) = is_same lane other

-- every event is, or those of one lane
abbrev pub is_chosen : Option LaneName → Event → Bool
is_chosen None event = true
is_chosen (Some lane) event = is_of lane (lane_of event)

-- the lanes of a fabric with so many requesters
abbrev pub has_lane : ℕ → LaneName → Bool
has_lane n (lanes.Up port) = nat_le 1 port && nat_le port n
has_lane n (lanes.Down port) = nat_le 1 port && nat_le port n
has_lane n lanes.Inward = true
has_lane n lanes.Outward = true

-- what is said of a lane that the fabric doesn't have
abbrev pub absent_words : Option LaneName → ℕ → List ℕ
absent_words None n = []
absent_words (Some lane) n = if has_lane n lane then [] else said.absent_words lane

-- the parts at the two ends of a lane
abbrev pub ends_of : LaneName → Parts
ends_of (lanes.Up port) = parts.Requester port
ends_of (lanes.Down port) = parts.Requester port
ends_of lanes.Inward = parts.Memory
ends_of lanes.Outward = parts.Memory

-- the parts that have a line: all, or those of the chosen lane if the fabric has it
abbrev pub parts_of : Option LaneName → ℕ → Parts
parts_of None n = parts.All n
parts_of (Some lane) n = if has_lane n lane then ends_of lane else parts.All n

-- where a row of a line goes, after so many rows
abbrev pub place_in : ChartWindow → ℕ → ℕ → Place
place_in w rows line =
    if nat_lt line w.from then places.Before
    else (if nat_lt w.to line then places.After
    else (if nat_lt rows 1000 then places.Shown else places.After))

abbrev pub place_of : ChartWindow → ℕ → ℕ → Event → Place
place_of w rows line event = if is_chosen w.lane event then place_in w rows line else places.Hidden

-- a brief chart leaves out what tells nothing new, and counts it if it would be shown
abbrev pub is_omitted : ChartWindow → Bool → Bool
is_omitted w is_old = w.is_brief && is_old

abbrev pub omitted : Place → Place
omitted places.Shown = places.Omitted
omitted places.Omitted = places.Omitted
omitted places.Hidden = places.Hidden
omitted places.Before = places.Hidden
omitted places.After = places.Hidden

abbrev pub unless_omitted : Bool → Place → Place
unless_omitted is_left_out place = if is_left_out then omitted place else place
