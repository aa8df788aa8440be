use Rattle.std.proofs.Common.{◌≡◌, ◌+◌, ◌*◌, ◌≤◌, ◌++◌, map, Some}
use Rattle.std.specs.Vec.{vec_len, vec_capacity}
use Rattle.hall_laws.specs.Parts.{flat, stations}
use Rattle.hall_core.proofs.opening.push_stations.Given as goal

abbrev pub invariant-loop-place : goal.invariant-loop-place
invariant-loop-place l =
    (l.slots.items ++ map Some (flat (stations l.shelves.requesters.items l.shelves.up.items l.shelves.down.items)) ≡ l.initial.slots.items ++ map Some (flat (stations l.initial.shelves.requesters.items l.initial.shelves.up.items l.initial.shelves.down.items)))
    × (vec_len l.shelves.requesters + l._place ≡ l.count) × (vec_len l.shelves.up + l._place ≡ l.count) × (vec_len l.shelves.down + l._place ≡ l.count)
    × (vec_len l.slots + 9 * vec_len l.shelves.requesters ≤ vec_capacity l.slots)
    × (l.count ≤ vec_capacity l.shelves.requesters) × (l.count ≤ vec_capacity l.shelves.up) × (l.count ≤ vec_capacity l.shelves.down) × (vec_len l.slots ≡ vec_len l.initial.slots + 9 * l._place)
