use Rattle.std.proofs.Common.{List}
use Rattle.lane_core.specs.declared.packet.WirePacket.{WirePacket}
use Rattle.lane_core.specs.Steps.{SenderEndView, after_transmission, wire_after_transmit}
use Rattle.lane_core.specs.Calls.{Transmit, IsRight}
use Rattle.lane_core.proofs.Kept.{both_or, right_by}
use Rattle.lane_core.proofs.lane.Lane.transmit.Goals as goal

pub invariant_of-self : goal.invariant_of-self
invariant_of-self c =
    both_or (λ (s : SenderEndView) (f : List WirePacket). IsRight (record { sender = s; forward = f; back = c.ends.inside.back; receiver = c.ends.inside.receiver }))
    c.transmit.result c.transmit.new.self (after_transmission c.ends.inside.sender) c.ends.inside.sender
    c.transmit.new.wire (wire_after_transmit c.ends.inside.sender c.ends.inside.forward) c.ends.inside.forward
    c.transmit.ensures.sender c.transmit.ensures.wire c.transmit.ensures.err_sender c.transmit.ensures.err_wire
    (right_by _ Transmit tt (rw (← c.ends.view_is) at c.self.invariant)) (rw (← c.ends.view_is) at c.self.invariant)
