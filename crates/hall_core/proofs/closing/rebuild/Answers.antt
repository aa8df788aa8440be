use Rattle.std.proofs.Common.{ℕ, List, Option, arith, refl, sym, ◌∙◌, subst}
use Rattle.std.specs.Mem.Slots.{slots_items}
use Rattle.fabric_steps.specs.Fabric.{Fabric}
use Rattle.fabric_steps.specs.declared.event.LaneName.TheVariants.{Inward, Outward}
use Rattle.hall_laws.specs.declared.part.PartValue.{PartValue}
use Rattle.hall_laws.specs.declared.part.PartValue.TheVariants.{Memory}
use Rattle.hall_core.specs.Closes.{PartAt, EndsAt, StationsAt}
use Rattle.hall_core.proofs.Emptied.{memory_at, ends_at, same_fabric}
use Rattle.hall_core.proofs.closing.rebuild.Goals as goal

pub next-requires : goal.next-requires
next-requires c =
    let f = c.requires.there in let z = c.requires.full in
    ((z.0, λ j h. absurd (omega arith)), omega (arith, z.1), Memory f.0.memory, memory_at (record { requester = c.each_part_has_its_slot.ensures.requester; end = c.each_part_has_its_slot.ensures.end }) f.0 f.1 (slots_items c.args.closed.slots) f.4)

pub next_lane-inward-requires : goal.next_lane-inward-requires
next_lane-inward-requires c =
    let f = c.requires.there in let a = c.next.ensures.rest in
    (a.0, omega (arith, a.2, c.requires.full.1), f.0.inward, subst (λ (xs : List (Option PartValue)). EndsAt xs 1 f.0.inward) (sym a.1) (ends_at (record { requester = c.each_part_has_its_slot.ensures.requester; end = c.each_part_has_its_slot.ensures.end }) f.0 f.1 (slots_items c.args.closed.slots) f.4 Inward f.0.inward 1 refl refl))

pub next_lane-outward-requires : goal.next_lane-outward-requires
next_lane-outward-requires c =
    let f = c.requires.there in let a = c.next.ensures.rest in let b = c.next_lane-inward.ensures.rest in
    (b.0, omega (arith, a.2, b.2, c.requires.full.1), f.0.outward, subst (λ (xs : List (Option PartValue)). EndsAt xs 5 f.0.outward) (sym (b.1 ∙ a.1)) (ends_at (record { requester = c.each_part_has_its_slot.ensures.requester; end = c.each_part_has_its_slot.ensures.end }) f.0 f.1 (slots_items c.args.closed.slots) f.4 Outward f.0.outward 5 refl refl))

pub returns : goal.returns
returns c f lanes count credits is =
    let xs : List (Option PartValue) = slots_items c.args.closed.slots in
    let a = c.next.ensures.rest in let b = c.next_lane-inward.ensures.rest in let d = c.next_lane-outward.ensures.rest in
    let inward = c.next_lane-inward.result in let outward = c.next_lane-outward.result in
    let lists = c.next_stations.new.shelves in
    let memory : PartAt xs 0 (Memory c.into_inner.result) = subst (λ m. PartAt xs 0 (Memory m)) (sym c.into_inner.ensures) c.in-Memory.ensures.value in
    let first : EndsAt xs 1 inward = subst (λ (l : List (Option PartValue)). EndsAt l 1 inward) a.1 c.next_lane-inward.ensures.value in
    let second : EndsAt xs 5 outward = subst (λ (l : List (Option PartValue)). EndsAt l 5 outward) (b.1 ∙ a.1) c.next_lane-outward.ensures.value in
    let rest : StationsAt xs c.args.config.now.requesters lists.requesters.items lists.up.items lists.down.items =
    subst (λ (l : List (Option PartValue)). StationsAt l c.args.config.now.requesters lists.requesters.items lists.up.items lists.down.items) (d.1 ∙ (b.1 ∙ a.1)) c.next_stations.ensures.value in
    let g : Fabric = record { credits = c.args.config.now.credits; memory = c.into_inner.result; requesters = lists.requesters.items; inward = inward; outward = outward; up = lists.up.items; down = lists.down.items } in
    same_fabric (record { requester = c.each_part_has_its_slot.ensures.requester; end = c.each_part_has_its_slot.ensures.end }) f g xs lanes is (sym credits) memory first second (subst (λ (n : ℕ). StationsAt xs n lists.requesters.items lists.up.items lists.down.items) (sym count) rest)
