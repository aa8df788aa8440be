use Rattle.std.proofs.Common.{refl, arith}
use Rattle.std.proofs.lemmas.List.{length-map}
use Rattle.flow_control.specs.Arrivals.{item_of, in_order, items_of}
use Rattle.flow_control.proofs.Merged.{few}
use Rattle.flow_control.proofs.Anew.{anew_end}
use Rattle.flow_control.proofs.classes.Classes.number_anew.Goals as goal

pub returns-clause-sound : goal.returns-clause-sound
returns-clause-sound c =
    let old = c.args.self.now in
    let all = length-map (in_order old) item_of in
    let bound = few old c.requires in
    (anew_end (items_of old) c.loop-place.place c.loop-place.cut c.loop-place.self (record { posted = c.loop-place.self.posted; non_posted = c.loop-place.self.non_posted; completion = c.loop-place.self.completion; next = c.len-count.result }) c.loop-place.invariant (omega (arith, all, c.len-count.ensures, c.loop-place-test.false, c.loop-place.auto.place-end))
    (refl, refl, refl) (omega (arith, c.loop-place-test.false, c.loop-place.auto.place-end)) (omega (arith, bound, c.requires.fits, c.len-count.ensures, c.loop-place.auto.place-end))).0

pub returns-clause-items : goal.returns-clause-items
returns-clause-items c =
    let old = c.args.self.now in
    let all = length-map (in_order old) item_of in
    let bound = few old c.requires in
    (anew_end (items_of old) c.loop-place.place c.loop-place.cut c.loop-place.self (record { posted = c.loop-place.self.posted; non_posted = c.loop-place.self.non_posted; completion = c.loop-place.self.completion; next = c.len-count.result }) c.loop-place.invariant (omega (arith, all, c.len-count.ensures, c.loop-place-test.false, c.loop-place.auto.place-end))
    (refl, refl, refl) (omega (arith, c.loop-place-test.false, c.loop-place.auto.place-end)) (omega (arith, bound, c.requires.fits, c.len-count.ensures, c.loop-place.auto.place-end))).1
