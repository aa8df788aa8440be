use Rattle.std.proofs.Common.{refl, IsOk}
use Rattle.lane_core.specs.Calls.{DeliverDllp}
use Rattle.lane_core.proofs.Kept.{when_ok, right_by, never_fault, content_told}
use Rattle.lane_core.proofs.lane.Lane.deliver_dllp.Goals as goal

pub returns-clause-never_fault : goal.returns-clause-never_fault
returns-clause-never_fault c = rw c.deliver_dllp.ensures.answer (never_fault c.reading_is_spelling.ensures.read _ c.args.fate (rw (← c.ends.view_is) at c.self.invariant))

pub invariant_of-self : goal.invariant_of-self
invariant_of-self c =
    let ok : IsOk c.deliver_dllp.result = rw c.deliver_dllp.ensures.answer (never_fault c.reading_is_spelling.ensures.read _ c.args.fate (rw (← c.ends.view_is) at c.self.invariant)) in
    rw (c.deliver_dllp.ensures.sender, when_ok c.deliver_dllp.result ok c.deliver_dllp.ensures.ok) (right_by _ (DeliverDllp c.args.fate) tt (rw (← c.ends.view_is) at c.self.invariant))

pub returns-clause-state : goal.returns-clause-state
returns-clause-state c =
    let ok : IsOk c.deliver_dllp.result = rw c.deliver_dllp.ensures.answer (never_fault c.reading_is_spelling.ensures.read _ c.args.fate (rw (← c.ends.view_is) at c.self.invariant)) in
    rw (c.deliver_dllp.ensures.sender, when_ok c.deliver_dllp.result ok c.deliver_dllp.ensures.ok, ← c.self.view_is, ← c.ends.view_is) refl

pub returns-clause-content : goal.returns-clause-content
returns-clause-content c = rw (c.deliver_dllp.ensures.sender, ← c.self.view_is, ← c.ends.view_is) (content_told c.reading_is_spelling.ensures.read _ c.args.fate (rw (← c.ends.view_is) at c.self.invariant))
