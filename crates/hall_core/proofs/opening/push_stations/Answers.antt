use Rattle.std.proofs.Common.{◌≡◌, ◌<◌, List, ◌∷◌, length, ap, sym, ◌∙◌, arith}
use Rattle.requester_core.specs.RequesterView.{RequesterView}
use Rattle.hall_core.proofs.Shelved.{first_out, pushed_station}
use Rattle.hall_core.proofs.opening.push_stations.Goals as goal

pub loop-place-preserved : goal.loop-place-preserved
loop-place-preserved c =
    let i = c.loop-place.invariant in
    let qs = c.loop-place.shelves.requesters in let us = c.loop-place.shelves.up in let ds = c.loop-place.shelves.down in
    let more = c.loop-place-test.true in
    let some_q : 0 < length qs.items = omega (arith, i.1, qs.ok.0, more) in
    let some_u : 0 < length us.items = omega (arith, i.2, us.ok.0, more) in
    let some_d : 0 < length ds.items = omega (arith, i.3, ds.ok.0, more) in
    let q = c.remove-requester.ensures in let u = c.remove-up.ensures in let d = c.remove-down.ensures in
    let rest : List RequesterView = c.remove-requester.new.self.items in
    let out_q : qs.items ≡ c.in_ok-requester.requester ∷ rest = first_out qs.items rest c.remove-requester.result some_q q.value q.items ∙ ap (λ (z : RequesterView). z ∷ rest) (sym c.in_ok-requester.ensures) in
    let out_u : us.items ≡ c.remove-up.result ∷ c.remove-up.new.self.items = first_out us.items c.remove-up.new.self.items c.remove-up.result some_u u.value u.items in
    let out_d : ds.items ≡ c.remove-down.result ∷ c.remove-down.new.self.items = first_out ds.items c.remove-down.new.self.items c.remove-down.result some_d d.value d.items in (
      pushed_station c.loop-place.slots.items c.push_station.new.slots.items _ qs.items c.remove-requester.new.self.items us.items c.remove-up.new.self.items ds.items c.remove-down.new.self.items c.in_ok-requester.requester c.remove-up.result c.remove-down.result i.0 out_q out_u out_d c.in_ok-push_station.ensures.items,
      omega (arith, i.1, q.len),
      omega (arith, i.2, u.len),
      omega (arith, i.3, d.len),
      omega (arith, i.4, q.len, c.in_ok-push_station.ensures.len, c.in_ok-push_station.ensures.capacity),
      omega (arith, i.5, q.capacity),
      omega (arith, i.6, u.capacity),
      omega (arith, i.7, d.capacity),
      omega (arith, i.8, c.in_ok-push_station.ensures.len),
    )
