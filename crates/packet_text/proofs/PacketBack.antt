-- The text of a packet is read back as that packet.
use Rattle.std.proofs.Common.{◌≡◌, sym, ap, ◌∙◌}
use Rattle.std.specs.Prelude.{Result, Ok}
use Rattle.packet_text.specs.declared.packet.Packet.{Packet}
use Rattle.packet_text.specs.declared.packet.Packet.TheVariants as packets
use Rattle.packet_text.specs.Packets.{IsPacket}
use Rattle.packet_text.specs.Texts.{packet_text}
use Rattle.packet_text.specs.Forms.{text_reading}
use Rattle.packet_text.proofs.OpLemmas.{Laws}
use Rattle.packet_text.proofs.ReadBack.{tlp-back, dllp-back}
use Rattle.packet_text.proofs.ConfigurationLemmas.{configuration-back}

pub packet-back : (L : Laws) (p : Packet) → IsPacket p → text_reading (packet_text p) ≡ Ok p
packet-back L (packets.Tlp t) h = tlp-back L t.kind t.tc t.attr t.length t.requester t.tag t.body t.payload h
packet-back L (packets.Configuration r) h = configuration-back L r h
packet-back L (packets.Dllp d) h = dllp-back L d h

some-packet : {E : Type 0} (p q : Packet) → ◌≡◌ {A = Result Packet E} (Ok p) (Ok q) → p ≡ q
some-packet p q e = cc e

pub one-packet : (L : Laws) (p q : Packet) → IsPacket p → IsPacket q → packet_text p ≡ packet_text q → p ≡ q
one-packet L p q hp hq e = some-packet p q (sym (packet-back L p hp) ∙ ap text_reading e ∙ packet-back L q hq)
