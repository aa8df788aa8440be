use Rattle.std.proofs.Common.{◌≡◌, false, take}
use Rattle.std.specs.List.{list_any}
use Rattle.search_places.specs.Pending.{blocks}
use Rattle.search_places.proofs.allowed.is_free.Given as goal

abbrev pub invariant-loop-c : goal.invariant-loop-c
invariant-loop-c l = list_any (blocks l.log l.requester l.b) (take l.c-index l.posts) ≡ false
