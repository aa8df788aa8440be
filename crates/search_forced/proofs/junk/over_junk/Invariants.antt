use Rattle.std.proofs.Common.{◌≡◌}
use Rattle.search_places.specs.Places.{IsPlace}
use Rattle.search_forced.proofs.junk.over_junk.Given as goal

abbrev pub invariant-loop-i : goal.invariant-loop-i
invariant-loop-i l = record {
  state : l.place.state ≡ l.fn.place.state;
  place : IsPlace l.known.log.now l.place;
}
