use Rattle.lane_core.specs.Steps.{SenderEndView, with_room}
use Rattle.lane_core.specs.Calls.{IsRight}
use Rattle.lane_core.proofs.Kept.{ok_or, of_ok, right_room, makes_room}
use Rattle.lane_core.proofs.Whole.{no_room}
use Rattle.lane_core.proofs.lane.Lane.make_room.Goals as goal

pub invariant_of-self : goal.invariant_of-self
invariant_of-self c =
    ok_or (λ (s : SenderEndView). IsRight (record { sender = s; forward = c.ends.inside.forward; back = c.ends.inside.back; receiver = c.ends.inside.receiver }))
    c.make_room.result c.make_room.new.self (with_room c.ends.inside.sender) c.ends.inside.sender c.make_room.ensures.ok c.make_room.ensures.err
    (λ a h. right_room _ c.args.need (of_ok c.make_room.result a h c.make_room.ensures.may) (rw (← c.ends.view_is) at c.self.invariant))
    (rw (← c.ends.view_is) at c.self.invariant)

pub returns-clause-no_room : goal.returns-clause-no_room
returns-clause-no_room c =
    rw (← c.self.view_is, ← c.ends.view_is)
    (no_room c.room_is_known_less_used.ensures c.make_room.result (record { sender = c.ends.inside.sender; forward = c.ends.inside.forward; back = c.ends.inside.back; receiver = c.ends.inside.receiver })
    c.args.need c.make_room.ensures.no_credits)

pub returns-clause-ok : goal.returns-clause-ok
returns-clause-ok c =
    rw (← c.self.view_is, ← c.ends.view_is)
    (makes_room c.make_room.result (record { sender = c.ends.inside.sender; forward = c.ends.inside.forward; back = c.ends.inside.back; receiver = c.ends.inside.receiver })
    c.args.need c.make_room.new.self c.make_room.ensures.may c.make_room.ensures.ok)
