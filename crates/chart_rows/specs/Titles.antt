-- The titles of arrows, in plain words.
use Rattle.std.specs.Prelude.{ℕ, ◌==◌, Bool, if◌then◌else◌, List, [], ◌++◌, length, codes, Option, Some, None}
use Rattle.std.specs.Fmt.{decimal}
use Rattle.dllp_core.specs.declared.packet.Dllp.{Dllp}
use Rattle.lane_core.specs.declared.packet.Fate.{Fate}
use Rattle.lane_core.specs.declared.packet.Fate.TheVariants as fates
use Rattle.lane_core.specs.declared.packet.Arrival.{Arrival}
use Rattle.fabric_steps.specs.declared.event.LaneName.{LaneName}
use Rattle.operation_text.specs.Texts.{sequence_text}
use Rattle.script_text.specs.LineTexts.{lane_text}
use Rattle.chart_rows.specs.declared.row.Carried.{Carried}
use Rattle.chart_rows.specs.declared.row.PacketSent.{PacketSent}
use Rattle.chart_rows.specs.declared.row.DllpSent.{DllpSent}
use Rattle.chart_rows.specs.declared.row.Flying.{Flying}
use Rattle.chart_rows.specs.declared.row.Flying.TheVariants as flying
use Rattle.chart_rows.specs.declared.row.Open.{Open}
use Rattle.chart_rows.specs.declared.row.Replay.{Replay}
use Rattle.chart_rows.specs.declared.row.Replay.TheVariants as replays
use Rattle.chart_rows.specs.Words.{kind_name, arrival_words, dllp_words, replay_words}

abbrev pub on_words : LaneName → List ℕ
on_words lane = codes " on " ++ lane_text lane

-- a request, or of which request it is the completion
abbrev pub completion_words : Bool → List ℕ
completion_words is_completion = if is_completion then codes "completion of " else []

abbrev pub what_words : Carried → List ℕ
what_words c = codes ", " ++ (completion_words c.is_completion ++ kind_name c.kind)

abbrev pub whose_words : Carried → List ℕ
whose_words c = codes " of requester " ++ (decimal c.requester ++ (codes ", request " ++ decimal c.number))

abbrev pub plain_words : Carried → List ℕ
plain_words c = what_words c ++ whose_words c

abbrev pub known_words : Option Carried → List ℕ
known_words None = []
known_words (Some c) = plain_words c

abbrev pub packet_words : LaneName → ℕ → Option Carried → List ℕ
packet_words lane number c = codes "packet " ++ (sequence_text number ++ (on_words lane ++ known_words c))

abbrev pub dllp_on_words : LaneName → Dllp → List ℕ
dllp_on_words lane dllp = dllp_words dllp ++ on_words lane

abbrev pub packet_sent_words : LaneName → Option PacketSent → List ℕ
packet_sent_words lane None = codes "packet" ++ on_words lane
packet_sent_words lane (Some p) = packet_words lane p.number p.carried

abbrev pub dllp_sent_words : LaneName → Option DllpSent → List ℕ
dllp_sent_words lane None = codes "DLLP" ++ on_words lane
dllp_sent_words lane (Some d) = dllp_on_words lane d.dllp

-- ---- arrows

-- what became of a packet
abbrev pub end_words : Fate → Arrival → List ℕ
end_words fate arrival = if length (arrival_words fate arrival) == 0 then codes "accepted" else arrival_words fate arrival

abbrev pub packet_title : LaneName → Option PacketSent → Fate → Arrival → List ℕ
packet_title lane sent fate arrival = packet_sent_words lane sent ++ (codes ", " ++ end_words fate arrival)

-- what goes once more, if anything does
abbrev pub then_words : Replay → List ℕ
then_words replays.Nothing = []
then_words (replays.Again places) = codes ", " ++ replay_words (replays.Again places)
then_words (replays.Stopped places) = codes ", " ++ replay_words (replays.Stopped places)

abbrev pub dllp_end_words : Fate → Replay → List ℕ
dllp_end_words fates.Good r = codes ", arrived" ++ then_words r
dllp_end_words fates.Failed r = codes ", failed"
dllp_end_words fates.Lost r = codes ", lost"

abbrev pub dllp_title : LaneName → Option DllpSent → Fate → Replay → List ℕ
dllp_title lane sent fate r = dllp_sent_words lane sent ++ dllp_end_words fate r

-- ---- what isn't seen to arrive

abbrev pub flying_words : LaneName → Flying → List ℕ
flying_words lane (flying.Packet number c) = packet_words lane number c
flying_words lane (flying.Dllp dllp) = dllp_on_words lane dllp

abbrev pub open_title : Open → List ℕ
open_title o = flying_words o.lane o.what ++ codes ", not seen to arrive"
