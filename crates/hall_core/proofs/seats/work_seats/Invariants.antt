use Rattle.std.proofs.Common.{◌≡◌, ◌+◌, ◌-◌, ◌≤◌, []}
use Rattle.std.specs.Vec.{vec_len, vec_capacity}
use Rattle.hall_laws.specs.Rule.{newcomers}
use Rattle.hall_core.specs.Views.{AreNewSeats}
use Rattle.hall_core.proofs.seats.work_seats.Given as goal

abbrev pub invariant-loop-index : goal.invariant-loop-index
invariant-loop-index l = AreNewSeats (record { table_id = l.steps.table_id; config = l.config; opened = l.steps.key.opened.value; seats = l.steps.key.seats }) l.config.requesters l.index l.seats.items × (l.place.table_id ≡ l.steps.table_id) × (l.place.me ≡ (newcomers l.config l.steps.key.opened.value l.steps.key.seats (l.config.requesters + l.index) (l.work - l.index), [])) × (vec_len l.seats ≡ l.index) × (l.work ≤ vec_capacity l.seats)
