use Rattle.std.proofs.Common.{◌≡◌, ◌++◌, length}
use Rattle.search_places.specs.Known.{whole, IsEven}
use Rattle.search_places.proofs.memo.key_of.Given as goal

abbrev pub invariant-loop-rest : goal.invariant-loop-rest
invariant-loop-rest l =
    (l.key.event ≡ l.place.state.event) × (l.key.pending.items ≡ l.place.pending) × IsEven l.key × (whole l.key ++ l.rest ≡ l.place.state.bytes)

abbrev pub decreases-loop-rest : goal.decreases-loop-rest
decreases-loop-rest l = length l.rest
