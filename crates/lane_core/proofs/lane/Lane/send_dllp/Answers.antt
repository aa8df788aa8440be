use Rattle.std.proofs.Common.{List}
use Rattle.dllp_core.specs.declared.packet.Dllp.{Dllp}
use Rattle.lane_core.specs.Steps.{ReceiverEndView, after_send, wire_after_send}
use Rattle.lane_core.specs.Calls.{SendDllp, IsRight}
use Rattle.lane_core.proofs.Kept.{both_or, right_by}
use Rattle.lane_core.proofs.lane.Lane.send_dllp.Goals as goal

pub invariant_of-self : goal.invariant_of-self
invariant_of-self c =
    both_or (λ (r : ReceiverEndView) (b : List Dllp). IsRight (record { sender = c.ends.inside.sender; forward = c.ends.inside.forward; back = b; receiver = r }))
    c.send_dllp.result c.send_dllp.new.self (after_send c.ends.inside.receiver c.args.kind) c.ends.inside.receiver
    c.send_dllp.new.wire (wire_after_send c.ends.inside.receiver c.args.kind c.ends.inside.back) c.ends.inside.back
    c.send_dllp.ensures.ok c.send_dllp.ensures.wire c.send_dllp.ensures.err c.send_dllp.ensures.err_wire
    (right_by _ (SendDllp c.args.kind) tt (rw (← c.ends.view_is) at c.self.invariant)) (rw (← c.ends.view_is) at c.self.invariant)
