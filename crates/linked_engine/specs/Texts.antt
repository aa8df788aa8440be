-- What the answers of `endpoint --link` say.
use Rattle.std.specs.Prelude.{ℕ, ◌==◌, List, [], ◌∷◌, ◌++◌, Bool, if◌then◌else◌, length, take, drop, codes, Result, Ok, Err}
use Rattle.std.specs.Fmt.{decimal}
use Rattle.std.specs.Int.{w16, w32, to_be_bytes}
use Rattle.hex.specs.Hex.{encode_upper}
use Rattle.hex_text.specs.Line.{spaced}
use Rattle.operation_text.specs.Texts.{sequence_text}
use Rattle.link_crc.specs.Crc.{lcrc_of, dllp_crc_of}
use Rattle.link_replay.specs.SenderView.{next_number}
use Rattle.lane_core.specs.Steps.{SenderEndView}
use Rattle.port_core.specs.declared.init.LinkState.{LinkState}
use Rattle.port_core.specs.declared.init.LinkState.TheVariants as states
use Rattle.port_core.specs.declared.fault.DllpRefusal.{DllpRefusal}
use Rattle.port_core.specs.declared.port.DllpReceived.{DllpReceived}
use Rattle.port_core.specs.declared.port.DllpReceived.TheVariants as effects
use Rattle.port_core.specs.declared.port.Outgoing.{Outgoing}
use Rattle.port_core.specs.declared.port.Outgoing.TheVariants as sends
use Rattle.port_core.specs.Refusals.{dllp_name}
use Rattle.port_core.specs.Port.{PortView}
use Rattle.linked_endpoint.specs.declared.linked.Arrived.{Arrived}
use Rattle.linked_endpoint.specs.declared.linked.Arrived.TheVariants as arrivals
use Rattle.linked_endpoint.specs.LinkedView.{LinkedView}
use Rattle.endpoint_engine.specs.Texts.{handled_text}

-- what became of a packet
abbrev pub arrived_text : Arrived → List ℕ
arrived_text arrivals.Dropped = codes "drop"
arrived_text arrivals.Duplicate = codes "duplicate"
arrived_text arrivals.NakNow = codes "nak"
arrived_text arrivals.Quiet = codes "quiet"
arrived_text arrivals.Overflow = codes "accept Overflow"
arrived_text (arrivals.Accepted handled) = handled_text handled

-- what became of a DLLP
abbrev pub heard_text : Result DllpReceived DllpRefusal → List ℕ
heard_text (Ok effects.Took) = codes "took"
heard_text (Ok effects.Gone) = codes "gone"
heard_text (Err refusal) = codes "error " ++ dllp_name refusal

-- a space and the digits of a CRC, its highest byte first, if the lines have CRCs
abbrev pub crc_text : Bool → List ℕ → List ℕ
crc_text has_crc bytes = if has_crc then 32 ∷ encode_upper bytes else []

-- the sequence number's two bytes, and the TLP in groups of four bytes
abbrev pub packet_digits : List ℕ → List ℕ
packet_digits bytes = encode_upper (take 2 bytes) ++ 32 ∷ spaced (encode_upper (drop 2 bytes))

abbrev pub packet_text : Bool → List ℕ → List ℕ
packet_text has_crc bytes = (codes "packet " ++ packet_digits bytes) ++ crc_text has_crc (to_be_bytes w32 (lcrc_of bytes))

-- a DLLP has four bytes
abbrev pub dllp_crc_bytes : List ℕ → List ℕ
dllp_crc_bytes bytes = if length bytes == 4 then to_be_bytes w16 (dllp_crc_of bytes) else []

abbrev pub dllp_text : Bool → List ℕ → List ℕ
dllp_text has_crc bytes = (codes "dllp " ++ encode_upper bytes) ++ crc_text has_crc (dllp_crc_bytes bytes)

-- what is sent next, and its bytes
abbrev pub sent_text : Bool → Outgoing → List ℕ → List ℕ
sent_text has_crc sends.Nothing bytes = codes "-"
sent_text has_crc (sends.Dllp dllp) bytes = dllp_text has_crc bytes
sent_text has_crc (sends.Packet number) bytes = packet_text has_crc bytes

-- REPLAY_TIMER expired: by how many packets the sender moved back, unless it waits now for the link to be retrained
abbrev pub replay_text : Bool → ℕ → List ℕ
replay_text stopped moved = if stopped then codes "retrain" else codes "replay " ++ decimal moved

-- the state of the link; active, but no packet is sent until the link is retrained
abbrev pub condition : LinkState → Bool → List ℕ
condition states.Inactive stopped = codes "inactive"
condition states.Init1 stopped = codes "init1"
condition states.Init2 stopped = codes "init2"
condition states.Active stopped = if stopped then codes "stopped" else codes "active"

-- NEXT_TRANSMIT_SEQ, and how many packets are unacknowledged
abbrev pub sender_text : SenderEndView → List ℕ
sender_text s = (codes " sends " ++ sequence_text (next_number s.sending)) ++ (codes " unacknowledged " ++ decimal (length s.sending.kept))

-- the link's state, and NEXT_RCV_SEQ
abbrev pub condition_text : PortView → List ℕ
condition_text p = condition p.state p.sender.sending.stopped ++ (codes " expects " ++ sequence_text p.incoming.receiving.next)

-- and how many requests wait
abbrev pub state_text : LinkedView → List ℕ
state_text l = (condition_text l.port ++ sender_text l.port.sender) ++ (codes " waiting " ++ decimal (length l.endpoint.waiting))
