use Rattle.std.proofs.Common.{◌≡◌, ◌+◌, ◌++◌}
use Rattle.std.specs.Vec.{vec_len}
use Rattle.hall_core.specs.Joins.{AreAt, tokens_of}
use Rattle.hall_core.proofs.seats.join_req_seats.Given as goal

abbrev pub invariant-loop-seat : goal.invariant-loop-seat
invariant-loop-seat l =
    (vec_len l.seats + l._seat ≡ l.count) × (l.place.table_id ≡ l.steps.table_id) × AreAt l.steps.table_id l.seats.items
    × (l.place.me.0 ++ tokens_of l.seats.items ≡ l.initial.place.me.0 ++ tokens_of l.initial.seats.items) × (l.place.me.1 ≡ l.initial.place.me.1)
