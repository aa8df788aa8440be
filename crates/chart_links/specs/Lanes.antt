-- What each event does on the lanes, and what is drawn of it.
use Rattle.std.specs.Prelude.{ℕ, ◌+◌, ◌%◌, ◌==◌, nat_lt, Bool, true, false, if◌then◌else◌, List, Option, Some, None, slice_get, slice_set}
use Rattle.tlp_core.specs.Ops.{Op}
use Rattle.lane_core.specs.declared.packet.Fate.{Fate}
use Rattle.lane_core.specs.declared.packet.Arrival.{Arrival}
use Rattle.lane_core.specs.declared.packet.Arrival.TheVariants as arrivals
use Rattle.link_replay.specs.declared.receiver.Reception.TheVariants as receptions
use Rattle.fabric_steps.specs.Event.{Event, Seen}
use Rattle.fabric_steps.specs.declared.event.EventOf.TheVariants as events
use Rattle.fabric_steps.specs.declared.event.LaneName.{LaneName}
use Rattle.fabric_steps.specs.declared.event.LaneName.TheVariants as lanes
use Rattle.fabric_steps.specs.declared.event.SeenOf.TheVariants as seen
use Rattle.chart_rows.specs.declared.row.Kind.{Kind}
use Rattle.chart_rows.specs.declared.row.Kind.TheVariants as requests
use Rattle.chart_rows.specs.declared.row.Carried.{Carried}
use Rattle.chart_rows.specs.declared.row.Deed.{Deed}
use Rattle.chart_rows.specs.declared.row.Deed.TheVariants as deeds
use Rattle.chart_rows.specs.declared.row.Replay.TheVariants as replays
use Rattle.chart_rows.specs.Words.{kind_of}
use Rattle.chart_links.specs.CourseView.{CourseView, entered, next_carried, sent, oldest, arrived, taken, without, sent_back, oldest_back, without_back, replay_of, replayed, told, told_replay}

-- ---- the lanes in a list

-- `in`, `up1` to `up7`, `out`, `down1` to `down7`
abbrev pub place_of : LaneName → ℕ
place_of lanes.Inward = 0
place_of (lanes.Up port) = port % 8
place_of lanes.Outward = 8
place_of (lanes.Down port) = 8 + port % 8

abbrev pub lane_at : ℕ → LaneName
lane_at place =
    if place == 0 then lanes.Inward
    else (if nat_lt place 8 then lanes.Up place
    else (if place == 8 then lanes.Outward else lanes.Down (place % 8)))

abbrev pub changed_found : (CourseView → CourseView) → List CourseView → ℕ → Option CourseView → List CourseView
changed_found f cs place None = cs
changed_found f cs place (Some c) = slice_set cs place (f c)

-- what is on a lane changes
abbrev pub changed : (CourseView → CourseView) → List CourseView → LaneName → List CourseView
changed f cs lane = changed_found f cs (place_of lane) (slice_get cs (place_of lane))

abbrev pub asked_found : {X : Type 0} → (CourseView → X) → X → Option CourseView → X
asked_found f nothing None = nothing
asked_found f nothing (Some c) = f c

-- what is known of a lane
abbrev pub asked : {X : Type 0} → (CourseView → X) → X → List CourseView → LaneName → X
asked f nothing cs lane = asked_found f nothing (slice_get cs (place_of lane))

-- ---- events

-- the lanes after an event, and what is drawn of it
pub record Moved : Type 0 where
  pub courses : List CourseView
  pub deed : Deed

abbrev pub moved : List CourseView → Deed → Moved
moved cs deed = record { courses = cs; deed = deed }

abbrev pub request_of : ℕ → ℕ → Op → Carried
request_of port number op = record { requester = port; number = number; kind = kind_of op; is_completion = false }

abbrev pub submitted : List CourseView → ℕ → Op → Seen → Moved
submitted cs port op (seen.Submitted number) = moved (changed (entered (Some (request_of port number op))) cs (lanes.Up port)) (deeds.Submitted port (request_of port number op))
submitted cs port op _ = moved cs deeds.Nothing

abbrev pub transmitted : List CourseView → Option ℕ → LaneName → Seen → Moved
transmitted cs row lane (seen.Sent number) = moved (changed (sent number row) cs lane) (deeds.Sent lane number (asked next_carried None cs lane))
transmitted cs row lane _ = moved cs deeds.Nothing

abbrev pub is_accepted : Arrival → Bool
is_accepted (arrivals.Answered receptions.Accept) = true
is_accepted _ = false

abbrev pub delivered : List CourseView → LaneName → Fate → Seen → Moved
delivered cs lane fate (seen.Delivered arrival) = moved (changed (arrived (is_accepted arrival)) cs lane) (deeds.Arrived lane fate arrival (asked oldest None cs lane))
delivered cs lane fate _ = moved cs deeds.Nothing

abbrev pub dllp_sent : List CourseView → Option ℕ → LaneName → Seen → Moved
dllp_sent cs row lane (seen.SentDllp dllp) = moved (changed (sent_back dllp row) cs lane) (deeds.SentDllp lane dllp)
dllp_sent cs row lane _ = moved cs deeds.Nothing

abbrev pub dllp_delivered : List CourseView → LaneName → Fate → Seen → Moved
dllp_delivered cs lane fate (seen.SeenDllp what) =
    moved (changed (λ c. told what (without_back c)) cs lane)
    (deeds.ArrivedDllp lane fate (asked oldest_back None cs lane) (asked (λ c. told_replay what (without_back c)) replays.Nothing cs lane))
dllp_delivered cs lane fate _ = moved cs deeds.Nothing

abbrev pub expired : List CourseView → LaneName → Moved
expired cs lane = moved (changed replayed cs lane) (deeds.Expired lane (asked replay_of replays.Nothing cs lane))

-- where the switch passes a packet on to
abbrev pub lane_to : ℕ → LaneName
lane_to port = if port == 0 then lanes.Inward else lanes.Down port

abbrev pub forwarded : List CourseView → LaneName → ℕ → Seen → Moved
forwarded cs lane place (seen.To port) =
    moved (changed (entered (asked (taken place) None cs lane)) (changed (without place) cs lane) (lane_to port)) (deeds.Forwarded (asked (taken place) None cs lane))
forwarded cs lane place _ = moved cs deeds.Nothing

-- the completion of a request, of which a posted one has none
abbrev pub completion_in : Kind → Carried → Option Carried
completion_in requests.Write c = None
completion_in _ c = Some (record c { is_completion = true })

abbrev pub completion_of : Option Carried → Option Carried
completion_of None = None
completion_of (Some c) = completion_in c.kind c

abbrev pub with_completion : List CourseView → Option Carried → List CourseView
with_completion cs None = cs
with_completion cs (Some c) = changed (entered (Some c)) cs lanes.Outward

abbrev pub served : List CourseView → ℕ → Seen → Moved
served cs place (seen.At index) =
    moved (with_completion (changed (without place) cs lanes.Inward) (completion_of (asked (taken place) None cs lanes.Inward)))
    (deeds.Served (asked (taken place) None cs lanes.Inward) index)
served cs place _ = moved cs deeds.Nothing

abbrev pub collected : List CourseView → ℕ → Moved
collected cs port = moved (changed (without 0) cs (lanes.Down port)) (deeds.Collected port (asked (taken 0) None cs (lanes.Down port)))

-- an event that happens, in a row that is perhaps shown, and what is seen of it
abbrev pub followed : List CourseView → Option ℕ → Event → Seen → Moved
followed cs row (events.Submit port op) what = submitted cs port op what
followed cs row (events.Transmit lane) what = transmitted cs row lane what
followed cs row (events.Deliver lane fate) what = delivered cs lane fate what
followed cs row (events.SendDllp lane kind) what = dllp_sent cs row lane what
followed cs row (events.DeliverDllp lane fate) what = dllp_delivered cs lane fate what
followed cs row (events.Timer lane) what = expired cs lane
followed cs row (events.Retrained lane) what = moved cs (deeds.Retrained lane)
followed cs row (events.Forward lane place) what = forwarded cs lane place what
followed cs row (events.Serve place) what = served cs place what
followed cs row (events.Collect port) what = collected cs port
