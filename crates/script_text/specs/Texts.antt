-- The text of what is seen of an event.
use Rattle.std.specs.Prelude.{ℕ, ◌%◌, List, [], ◌∷◌, codes}
use Rattle.std.specs.List.{join_with_byte}
use Rattle.std.specs.Fmt.{decimal}
use Rattle.hex.specs.Hex.{encode_upper}
use Rattle.dllp_core.specs.declared.packet.Dllp.{Dllp}
use Rattle.dllp_core.specs.declared.packet.Dllp.TheVariants as dllps
use Rattle.dllp_core.specs.Layout.{canonical}
use Rattle.link_replay.specs.declared.receiver.Reception.{Reception}
use Rattle.link_replay.specs.declared.receiver.Reception.TheVariants as receptions
use Rattle.lane_core.specs.declared.packet.Arrival.{Arrival}
use Rattle.lane_core.specs.declared.packet.Arrival.TheVariants as arrivals
use Rattle.lane_core.specs.declared.packet.DllpSeen.{DllpSeen}
use Rattle.lane_core.specs.declared.packet.DllpSeen.TheVariants as dllps_seen
use Rattle.history_words.specs.Records.{Record}
use Rattle.history_words.specs.declared.record.RecordOf.TheVariants as records
use Rattle.fabric_steps.specs.Event.{Event, Seen}
use Rattle.fabric_steps.specs.declared.event.EventOf.TheVariants as events
use Rattle.fabric_steps.specs.declared.event.SeenOf.TheVariants as seen
use Rattle.operation_text.specs.Texts.{sequence_text, reply_text}

-- words with a space between each two
abbrev pub spaced : List (List ℕ) → List ℕ
spaced ws = join_with_byte 32 ws

-- the credits of an UpdateFC are counted modulo those of their field
abbrev pub in_field : Dllp → Dllp
in_field (dllps.Ack n) = dllps.Ack n
in_field (dllps.Nak n) = dllps.Nak n
in_field (dllps.Update c header units) = dllps.Update c header (units % 4096)

-- the four bytes, two hexadecimal digits a byte
abbrev pub dllp_text : Dllp → List ℕ
dllp_text d = encode_upper (canonical (in_field d))

abbrev pub reception_text : Reception → List ℕ
reception_text receptions.Accept = codes "accept"
reception_text receptions.Duplicate = codes "duplicate"
reception_text receptions.NakNow = codes "nak"
reception_text receptions.Quiet = codes "quiet"

abbrev pub arrival_text : Arrival → List ℕ
arrival_text (arrivals.Answered r) = reception_text r
arrival_text arrivals.Gone = codes "gone"

abbrev pub dllp_seen_text : DllpSeen → List ℕ
dllp_seen_text (dllps_seen.Took d) = spaced (codes "took" ∷ dllp_text d ∷ [])
dllp_seen_text dllps_seen.Gone = codes "gone"

-- the port of the requester that submits or collects, 0 where none does
abbrev pub port_of : Event → ℕ
port_of (events.Submit i op) = i
port_of (events.Collect i) = i
port_of _ = 0

abbrev pub seen_text : Event → Seen → List ℕ
seen_text e (seen.Submitted number) = spaced (codes "sub" ∷ decimal (port_of e) ∷ decimal number ∷ [])
seen_text e (seen.Sent n) = spaced (codes "sent" ∷ sequence_text n ∷ [])
seen_text e (seen.Delivered a) = arrival_text a
seen_text e (seen.SentDllp d) = dllp_text d
seen_text e (seen.SeenDllp s) = dllp_seen_text s
seen_text e (seen.Back places) = spaced (codes "replay" ∷ decimal places ∷ [])
seen_text e seen.Retrained = codes "retrained"
seen_text e (seen.To port) = spaced (codes "to" ∷ decimal port ∷ [])
seen_text e (seen.At index) = spaced (codes "at" ∷ decimal index ∷ [])
seen_text e (seen.Collected a) = spaced (codes "ans" ∷ decimal (port_of e) ∷ decimal a.number ∷ reply_text a.reply ∷ [])

-- what was seen of the event of a record
abbrev pub told_text : Record → List ℕ
told_text (records.Sub i number op n) = spaced (codes "sub" ∷ decimal i ∷ decimal number ∷ [])
told_text (records.Ans i number reply n) = spaced (codes "ans" ∷ decimal i ∷ decimal number ∷ reply_text reply ∷ [])

-- a fabric came to rest
abbrev pub settled_text : List ℕ
settled_text = codes "settled"
