use Rattle.std.proofs.Common.{◌≡◌, length}
use Rattle.log_events.proofs.partners.Partners.none.Given as goal

abbrev pub invariant-loop-at : goal.invariant-loop-at
invariant-loop-at l = length l.places.items ≡ l.at
