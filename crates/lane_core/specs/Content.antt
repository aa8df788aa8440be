-- Packets of a lane, as values with their marks and as bytes.
use Rattle.std.specs.Prelude.{ℕ, ◌+◌, ◌-◌, ◌/◌, ◌%◌, IsOk, List, ◌∷◌, drop, Option, Some, None, filter_map, Result, Ok, Err}
use Rattle.tlp_core.specs.TlpView.{TlpView}
use Rattle.tlp_core.specs.Layout.{canonical}
use Rattle.tlp_core.specs.Faults.{reading}
use Rattle.tlp_core.specs.declared.fault.TlpFault.{TlpFault}
use Rattle.link_replay.specs.CargoView.{CargoView}
use Rattle.link_replay.specs.SenderView.{SenderView}
use Rattle.flow_control.specs.Queue.{Item}
use Rattle.lane_core.specs.declared.packet.WirePacket.{WirePacket}

-- a packet and its mark, as a sender carries them
abbrev pub cargo_of : TlpView → ℕ → CargoView
cargo_of t mark = record { bytes = canonical t; mark = mark }

-- the packet that the bytes spell, with the mark beside them
abbrev pub item_read : Result TlpView TlpFault → ℕ → Option Item
item_read (Ok t) mark = Some (t, mark)
item_read (Err fault) mark = None

abbrev pub item_spelled : CargoView → Option Item
item_spelled cargo = item_read (reading cargo.bytes) cargo.mark

abbrev pub items_of : List CargoView → List Item
items_of cargo = filter_map item_spelled cargo

-- the bytes spell a packet
abbrev pub IsSpelled : CargoView → Type 0
IsSpelled cargo = IsOk (reading cargo.bytes)

-- the bytes on the wire: four zero bits and the number, high byte first, and the packet's bytes (section 3.6.1)
abbrev pub wire_bytes : WirePacket → List ℕ
wire_bytes p = (p.number / 256) ∷ (p.number % 256) ∷ p.cargo.bytes

-- how many kept packets the receiver has, whose NEXT_RCV_SEQ is `next`: (NEXT_RCV_SEQ - ACKD_SEQ - 1) mod 4096
abbrev pub received_of : SenderView → ℕ → ℕ
received_of s next = (next + 4095 - s.acked) % 4096

-- the packets that were entered and are not yet accepted
abbrev pub unaccepted_of : SenderView → ℕ → List CargoView
unaccepted_of s next = drop (received_of s next) s.kept
