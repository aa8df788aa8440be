use Rattle.std.proofs.Common.{◌≡◌, List, ◌∷◌, subst, ◌∙◌}
use Rattle.hall_core.specs.Views.{SeatView}
use Rattle.hall_core.specs.Joins.{AreAt}
use Rattle.hall_core.proofs.Joined.{first_out, all_joined}
use Rattle.hall_core.proofs.seats.all_at_once.Goals as goal

pub join_req_seats-requires-clause-table : goal.join_req_seats-requires-clause-table
join_req_seats-requires-clause-table c =
    let requesters : List SeatView = c.args.requesters.items in let others : List SeatView = c.remove-first.new.self.items in let s : SeatView = c.remove-first.result in
    let out : requesters ≡ s ∷ others = first_out requesters others s c.requires.some c.remove-first.ensures.value c.remove-first.ensures.items in
    let there : AreAt c.args.steps.now.table_id (s ∷ others) = subst (AreAt c.args.steps.now.table_id) out c.requires.seats.0 in
    (c.into_place-place.ensures.0 ∙ there.0, c.requires.table)

pub join_req_seats-requires-clause-seats : goal.join_req_seats-requires-clause-seats
join_req_seats-requires-clause-seats c =
    let requesters : List SeatView = c.args.requesters.items in let others : List SeatView = c.remove-first.new.self.items in let s : SeatView = c.remove-first.result in
    let out : requesters ≡ s ∷ others = first_out requesters others s c.requires.some c.remove-first.ensures.value c.remove-first.ensures.items in
    let there : AreAt c.args.steps.now.table_id (s ∷ others) = subst (AreAt c.args.steps.now.table_id) out c.requires.seats.0 in
    there.1

pub join_work_seats-requires-clause-table : goal.join_work_seats-requires-clause-table
join_work_seats-requires-clause-table c =
    let requesters : List SeatView = c.args.requesters.items in let others : List SeatView = c.remove-first.new.self.items in let s : SeatView = c.remove-first.result in
    let out : requesters ≡ s ∷ others = first_out requesters others s c.requires.some c.remove-first.ensures.value c.remove-first.ensures.items in
    let there : AreAt c.args.steps.now.table_id (s ∷ others) = subst (AreAt c.args.steps.now.table_id) out c.requires.seats.0 in
    (c.join_req_seats.ensures.table ∙ (c.into_place-place.ensures.0 ∙ there.0), c.requires.table)

pub returns-clause-table : goal.returns-clause-table
returns-clause-table c =
    let requesters : List SeatView = c.args.requesters.items in let others : List SeatView = c.remove-first.new.self.items in let s : SeatView = c.remove-first.result in
    let out : requesters ≡ s ∷ others = first_out requesters others s c.requires.some c.remove-first.ensures.value c.remove-first.ensures.items in
    let there : AreAt c.args.steps.now.table_id (s ∷ others) = subst (AreAt c.args.steps.now.table_id) out c.requires.seats.0 in
    c.join_work_seats.ensures.table ∙ (c.join_req_seats.ensures.table ∙ (c.into_place-place.ensures.0 ∙ there.0))

pub returns-clause-tokens : goal.returns-clause-tokens
returns-clause-tokens c =
    let requesters : List SeatView = c.args.requesters.items in let others : List SeatView = c.remove-first.new.self.items in let s : SeatView = c.remove-first.result in
    let out : requesters ≡ s ∷ others = first_out requesters others s c.requires.some c.remove-first.ensures.value c.remove-first.ensures.items in
    all_joined requesters others c.args.work.items s c.into_place-place.result.me c.join_req_seats.new.place.me c.join_work_seats.new.place.me out c.into_place-place.ensures.1 c.join_req_seats.ensures.tokens.0 c.join_work_seats.ensures.tokens.0
