use Rattle.std.proofs.Common.{◌+◌, arith, sym, subst, take}
use Rattle.log_cells.specs.Places.{ArePlaces}
use Rattle.log_cells.proofs.Tables.{places_more}
use Rattle.log_cells.proofs.places.places_of.Goals as goal

pub loop-at-preserved : goal.loop-at-preserved
loop-at-preserved c =
    let es = c.args.log.now.events in
    let i = c.loop-at.at in
    subst (ArePlaces (take (i + 1) es)) (sym c.in_ok-push.ensures.items) (places_more es c.loop-at.places.items i c.place_at-place.result (omega (arith, c.loop-at-test.true, c.len.ensures)) c.loop-at.invariant c.place_at-place.ensures)
