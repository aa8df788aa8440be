use Rattle.std.proofs.Common.{◌≡◌, List, refl}
use Rattle.lane_core.specs.declared.packet.WirePacket.{WirePacket}
use Rattle.lane_core.specs.Steps.{ReceiverEndView, all_but_first, after_deliver}
use Rattle.lane_core.specs.Calls.{Deliver, IsRight, content}
use Rattle.lane_core.proofs.Kept.{both_or, right_by, accepts_when, content_delivered}
use Rattle.lane_core.proofs.lane.Lane.deliver.Goals as goal

pub invariant_of-self : goal.invariant_of-self
invariant_of-self c =
    both_or (λ (r : ReceiverEndView) (f : List WirePacket). IsRight (record { sender = c.ends.inside.sender; forward = f; back = c.ends.inside.back; receiver = r }))
    c.deliver.result c.deliver.new.self (after_deliver c.ends.inside.forward c.ends.inside.receiver c.args.fate) c.ends.inside.receiver
    c.deliver.new.wire (all_but_first c.ends.inside.forward) c.ends.inside.forward
    c.deliver.ensures.ok c.deliver.ensures.wire c.deliver.ensures.err c.deliver.ensures.err_wire
    (right_by _ (Deliver c.args.fate) tt (rw (← c.ends.view_is) at c.self.invariant)) (rw (← c.ends.view_is) at c.self.invariant)

pub returns-clause-accepts : goal.returns-clause-accepts
returns-clause-accepts c =
    rw (← c.self.view_is, ← c.ends.view_is)
    (accepts_when c.reading_is_spelling.ensures.read (record { sender = c.ends.inside.sender; forward = c.ends.inside.forward; back = c.ends.inside.back; receiver = c.ends.inside.receiver })
    c.args.fate c.deliver.result c.deliver.new.self c.deliver.new.wire (rw (← c.ends.view_is) at c.self.invariant) c.deliver.ensures.answer c.deliver.ensures.ok c.deliver.ensures.wire)

pub returns-clause-content : goal.returns-clause-content
returns-clause-content c =
    rw (← c.self.view_is, ← c.ends.view_is)
    (both_or (λ (r : ReceiverEndView) (f : List WirePacket). content (record { sender = c.ends.inside.sender; forward = f; back = c.ends.inside.back; receiver = r })
    ≡ content (record { sender = c.ends.inside.sender; forward = c.ends.inside.forward; back = c.ends.inside.back; receiver = c.ends.inside.receiver }))
    c.deliver.result c.deliver.new.self (after_deliver c.ends.inside.forward c.ends.inside.receiver c.args.fate) c.ends.inside.receiver
    c.deliver.new.wire (all_but_first c.ends.inside.forward) c.ends.inside.forward
    c.deliver.ensures.ok c.deliver.ensures.wire c.deliver.ensures.err c.deliver.ensures.err_wire
    (content_delivered c.reading_is_spelling.ensures.read _ c.args.fate (rw (← c.ends.view_is) at c.self.invariant)) refl)
