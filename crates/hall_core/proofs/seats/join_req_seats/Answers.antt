use Rattle.std.proofs.Common.{◌≡◌, ◌<◌, List, ◌∷◌, length, ap, subst, ◌∙◌, arith}
use Rattle.hall_core.specs.Views.{SeatView}
use Rattle.hall_core.specs.Joins.{AreAt}
use Rattle.hall_core.proofs.Joined.{first_out, one_joined, none_left}
use Rattle.hall_core.proofs.seats.join_req_seats.Goals as goal

pub join-requires : goal.join-requires
join-requires c =
    let i = c.loop-seat.invariant in let seats = c.loop-seat.seats in
    let some : 0 < length seats.items = omega (arith, i.0, seats.ok.0, c.loop-seat-test.true) in
    let s : SeatView = c.remove-other.result in
    let out : seats.items ≡ s ∷ c.remove-other.new.self.items = first_out seats.items c.remove-other.new.self.items s some c.remove-other.ensures.value c.remove-other.ensures.items in
    let there : AreAt c.args.steps.now.table_id (s ∷ c.remove-other.new.self.items) = subst (AreAt c.args.steps.now.table_id) out i.2 in
    (i.1, c.into_place.ensures.0 ∙ there.0, c.requires.table.1, ap (λ m. m.1) c.into_place.ensures.1)

pub loop-seat-preserved : goal.loop-seat-preserved
loop-seat-preserved c =
    let i = c.loop-seat.invariant in let seats = c.loop-seat.seats in
    let some : 0 < length seats.items = omega (arith, i.0, seats.ok.0, c.loop-seat-test.true) in
    let s : SeatView = c.remove-other.result in let others : List SeatView = c.remove-other.new.self.items in
    let out : seats.items ≡ s ∷ others = first_out seats.items others s some c.remove-other.ensures.value c.remove-other.ensures.items in
    let there : AreAt c.args.steps.now.table_id (s ∷ others) = subst (AreAt c.args.steps.now.table_id) out i.2 in (
      omega (arith, i.0, c.remove-other.ensures.len),
      c.join.ensures.0 ∙ i.1,
      there.1,
      one_joined seats.items others s c.loop-seat.place.me c.into_place.result.me c.join.new.place.me _ out i.3 c.into_place.ensures.1 c.join.ensures.2,
      ap (λ m. m.1) c.join.ensures.2 ∙ i.4,
    )

pub returns-clause-tokens : goal.returns-clause-tokens
returns-clause-tokens c =
    let i = c.loop-seat.invariant in let seats = c.loop-seat.seats in
    let none : length seats.items ≡ 0 = omega (arith, i.0, seats.ok.0, c.loop-seat-test.false) in
    (none_left seats.items c.loop-seat.place.me.0 _ none i.3, i.4)
