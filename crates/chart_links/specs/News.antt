-- What tells nothing new. A brief chart leaves it out.
use Rattle.std.specs.Prelude.{◌==◌, ◌&&◌, Bool, true, false, if◌then◌else◌, List, Option, Some, None, is_some}
use Rattle.dllp_core.specs.declared.packet.Dllp.{Dllp}
use Rattle.dllp_core.specs.declared.packet.Dllp.TheVariants as dllps
use Rattle.lane_core.specs.declared.packet.DllpSeen.{DllpSeen}
use Rattle.lane_core.specs.declared.packet.DllpSeen.TheVariants as dllps_seen
use Rattle.fabric_steps.specs.Event.{Event, Seen}
use Rattle.fabric_steps.specs.declared.event.EventOf.TheVariants as events
use Rattle.fabric_steps.specs.declared.event.LaneName.{LaneName}
use Rattle.fabric_steps.specs.declared.event.SeenOf.TheVariants as seen
use Rattle.chart_rows.specs.declared.row.DllpSent.{DllpSent}
use Rattle.chart_links.specs.declared.limits.Limit.{Limit}
use Rattle.chart_links.specs.CourseView.{CourseView, limit, limit_of, oldest_back}
use Rattle.chart_links.specs.Lanes.{asked}

-- a limit is the one that the last update told; where none arrived, it is that of the beginning if no packet has left
-- the queue, since only that gives credits back
abbrev pub is_known : Option Limit → Bool → Limit → Bool
is_known None has_taken now = if has_taken then false else true
is_known (Some last) has_taken now = (last.headers == now.headers) && (last.units == now.units)

-- an Ack tells a sender nothing new if it acknowledges no packet that wasn't acknowledged before, an update if its limit is
-- known, so that it raises none; a Nak always tells something
abbrev pub is_old : Dllp → CourseView → Bool
is_old (dllps.Ack number) s = number == s.acked
is_old (dllps.Nak number) s = false
is_old (dllps.Update class headers units) s = is_known (limit_of s.limits class) s.has_taken (limit headers units)

-- the sending of a DLLP is shown
abbrev pub is_begun : Option DllpSent → Bool
is_begun None = false
is_begun (Some d) = is_some d.row

-- an arrow that begins in a row is shown to its end
abbrev pub is_old_arrival : Dllp → CourseView → Bool
is_old_arrival dllp s = if is_begun (oldest_back s) then false else is_old dllp s

abbrev pub is_old_sending : List CourseView → LaneName → Seen → Bool
is_old_sending cs lane (seen.SentDllp dllp) = asked (is_old dllp) false cs lane
is_old_sending cs lane _ = false

-- what is lost or fails its check is always shown
abbrev pub is_old_end : List CourseView → LaneName → DllpSeen → Bool
is_old_end cs lane (dllps_seen.Took dllp) = asked (is_old_arrival dllp) false cs lane
is_old_end cs lane dllps_seen.Gone = false

abbrev pub is_old_delivery : List CourseView → LaneName → Seen → Bool
is_old_delivery cs lane (seen.SeenDllp what) = is_old_end cs lane what
is_old_delivery cs lane _ = false

-- an event tells nothing new if it sends such a DLLP or delivers it
abbrev pub tells_nothing : List CourseView → Event → Seen → Bool
tells_nothing cs (events.SendDllp lane kind) what = is_old_sending cs lane what
tells_nothing cs (events.DeliverDllp lane fate) what = is_old_delivery cs lane what
tells_nothing cs _ what = false
