use Rattle.std.proofs.Common.{◌≤◌, arith}
use Rattle.flow_control.specs.Needs.{need_of}
use Rattle.lane_core.specs.Steps.{SenderEndView, entered}
use Rattle.lane_core.specs.Calls.{IsRight}
use Rattle.lane_core.proofs.Kept.{ok_or, of_ok, when_entered, right_entered, enters}
use Rattle.lane_core.proofs.Whole.{no_room}
use Rattle.lane_core.proofs.lane.Lane.enter.Goals as goal

pub invariant_of-self : goal.invariant_of-self
invariant_of-self c =
    ok_or (λ (s : SenderEndView). IsRight (record { sender = s; forward = c.ends.inside.forward; back = c.ends.inside.back; receiver = c.ends.inside.receiver }))
    c.enter.result c.enter.new.self (entered c.ends.inside.sender c.args.tlp.now c.args.mark) c.ends.inside.sender c.enter.ensures.ok c.enter.ensures.err
    (λ a h. right_entered _ c.args.tlp.now c.args.mark (of_ok c.enter.result a h c.enter.ensures.may) (of_ok c.enter.result a h c.enter.ensures.spelled) (rw (← c.ends.view_is) at c.self.invariant))
    (rw (← c.ends.view_is) at c.self.invariant)

pub returns-clause-content : goal.returns-clause-content
returns-clause-content c =
    rw (← c.self.view_is, ← c.ends.view_is)
    (when_entered c.reading_is_spelling.ensures.read (record { sender = c.ends.inside.sender; forward = c.ends.inside.forward; back = c.ends.inside.back; receiver = c.ends.inside.receiver })
    c.args.tlp.now c.args.mark c.enter.result c.enter.new.self c.enter.ensures.may c.enter.ensures.ok c.enter.ensures.spelled (rw (← c.ends.view_is) at c.self.invariant))

pub returns-clause-no_room : goal.returns-clause-no_room
returns-clause-no_room c =
    rw (← c.self.view_is, ← c.ends.view_is)
    (no_room c.room_is_known_less_used.ensures c.enter.result (record { sender = c.ends.inside.sender; forward = c.ends.inside.forward; back = c.ends.inside.back; receiver = c.ends.inside.receiver })
    (need_of c.args.tlp.now) c.enter.ensures.no_credits (omega (arith, c.limits_let_each_packet_go.ensures.header c.args.tlp.now)) (let few : (need_of c.args.tlp.now).units ≤ 8 = c.enter.ensures.small in omega arith))

pub returns-clause-ok : goal.returns-clause-ok
returns-clause-ok c =
    rw (← c.self.view_is, ← c.ends.view_is)
    (enters c.enter.result (record { sender = c.ends.inside.sender; forward = c.ends.inside.forward; back = c.ends.inside.back; receiver = c.ends.inside.receiver })
    c.args.tlp.now c.args.mark c.enter.new.self c.enter.ensures.may c.enter.ensures.ok)
