use Rattle.std.proofs.Common.{◌≡◌, ◌+◌, ◌*◌, ◌++◌, ◌∷◌, [], ℕ, suc, List, Option, arith, sym, ◌∙◌, subst}
use Rattle.std.specs.Mem.Slots.{slots_items, slots_filled, slots_len}
use Rattle.requester_core.specs.RequesterView.{RequesterView}
use Rattle.lane_core.specs.Steps.{LaneEndsView}
use Rattle.hall_laws.specs.declared.part.PartValue.{PartValue}
use Rattle.hall_core.specs.Closes.{IsEmptiedTo, StationFrom, StationsAt}
use Rattle.hall_core.proofs.Emptied.{station_at, one_station}
use Rattle.hall_core.proofs.closing.next_stations.Goals as goal

pub next_station-requires-clause-there : goal.next_station-requires-clause-there
next_station-requires-clause-there c =
    let f = c.requires.there in
    let n : ℕ = c.loop-place.place in
    let at : ℕ = 9 * (c.from.result + 1) in
    let more = c.loop-place-test.true in
    let s = station_at (record { requester = c.each_part_has_its_slot.ensures.requester; end = c.each_part_has_its_slot.ensures.end }) f.0 f.1 (slots_items c.args.closed.now.slots) f.3 n at (omega (arith, more, f.2)) (omega (arith, c.from.ensures)) in
    (s.0, s.1, s.2, subst (λ (xs : List (Option PartValue)). StationFrom xs at s.0 s.1 s.2) (sym c.loop-place.invariant.2) s.3)

pub loop-place-preserved : goal.loop-place-preserved
loop-place-preserved c =
    let i = c.loop-place.invariant in
    let n : ℕ = c.loop-place.place in
    let v = c.next_station.ensures.value in let r = c.next_station.ensures.rest in
    let xs : List (Option PartValue) = slots_items c.args.closed.now.slots in
    let at : 9 * (c.from.result + 1) ≡ 9 * suc n = omega (arith, c.from.ensures) in
    let one : StationFrom xs (9 * suc n) v.0 v.1 v.2 = subst (λ (k : ℕ). StationFrom xs k v.0 v.1 v.2) at (subst (λ (l : List (Option PartValue)). StationFrom l (9 * (c.from.result + 1)) v.0 v.1 v.2) i.2 v.3) in
    let more : StationsAt xs (n + 1) (c.loop-place.shelves.requesters.items ++ v.0 ∷ []) (c.loop-place.shelves.up.items ++ v.1 ∷ []) (c.loop-place.shelves.down.items ++ v.2 ∷ []) = one_station xs n c.loop-place.shelves.requesters.items c.loop-place.shelves.up.items c.loop-place.shelves.down.items v.0 v.1 v.2 i.0 one in
    let Q : List RequesterView → Type 0 = λ l. StationsAt xs (n + 1) l c.next_station.new.shelves.up.items c.next_station.new.shelves.down.items in
    let U : List LaneEndsView → Type 0 = λ l. StationsAt xs (n + 1) (c.loop-place.shelves.requesters.items ++ v.0 ∷ []) l c.next_station.new.shelves.down.items in
    let D : List LaneEndsView → Type 0 = λ l. StationsAt xs (n + 1) (c.loop-place.shelves.requesters.items ++ v.0 ∷ []) (c.loop-place.shelves.up.items ++ v.1 ∷ []) l in
    let far : 9 * (c.from.result + 1) + 9 ≡ 9 * (n + 1 + 1) = omega (arith, c.from.ensures) in (
      subst Q (sym v.4) (subst U (sym v.5) (subst D (sym v.6) more)),
      subst (λ (k : ℕ). IsEmptiedTo (slots_filled c.next_station.new.closed.slots) (slots_len c.next_station.new.closed.slots) k) far r.0,
      r.1 ∙ i.2,
      r.2 ∙ i.3,
      omega (arith, i.4, c.next_station.ensures.len.0),
      omega (arith, i.5, c.next_station.ensures.len.1),
      omega (arith, i.6, c.next_station.ensures.len.2),
      omega (arith, i.7, c.next_station.ensures.capacity.0),
      omega (arith, i.8, c.next_station.ensures.capacity.1),
      omega (arith, i.9, c.next_station.ensures.capacity.2),
    )
