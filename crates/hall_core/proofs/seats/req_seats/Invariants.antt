use Rattle.std.proofs.Common.{◌≡◌, ◌+◌, ◌-◌, ◌≤◌, []}
use Rattle.std.specs.Vec.{vec_len, vec_capacity}
use Rattle.hall_laws.specs.Rule.{newcomers}
use Rattle.hall_core.specs.Views.{AreNewSeats}
use Rattle.hall_core.proofs.seats.req_seats.Given as goal

abbrev pub invariant-loop-number : goal.invariant-loop-number
invariant-loop-number l = AreNewSeats (record { table_id = l.steps.table_id; config = l.config; opened = l.steps.key.opened.value; seats = l.steps.key.seats }) 0 l.number l.seats.items × (l.place.table_id ≡ l.steps.table_id) × (l.place.me ≡ (newcomers l.config l.steps.key.opened.value l.steps.key.seats l.number (l.config.requesters + l.work - l.number), [])) × (vec_len l.seats ≡ l.number) × (l.config.requesters ≤ vec_capacity l.seats)
