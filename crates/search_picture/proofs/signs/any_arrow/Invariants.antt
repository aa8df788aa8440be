use Rattle.std.proofs.Common.{◌≡◌, drop}
use Rattle.std.specs.Prelude.{◌||◌}
use Rattle.std.specs.List.{list_any}
use Rattle.search_picture.specs.Picture.{is_drawn}
use Rattle.search_picture.proofs.signs.any_arrow.Given as goal

abbrev pub invariant-loop-arrow : goal.invariant-loop-arrow
invariant-loop-arrow l = (l.any || list_any (is_drawn l.requests) (drop l.arrow-index l.arrows)) ≡ list_any (is_drawn l.requests) l.arrows
