use Rattle.std.proofs.Common.{refl}
use Rattle.search_places.proofs.Tables.{place_start}
use Rattle.search_places.proofs.place.Place.first.Goals as goal

pub returns-clause-place : goal.returns-clause-place
returns-clause-place c =
    place_start c.args.log.now _ c.len.result c.len.ensures refl c.in_ok-none_acted.ensures c.new.ensures c.new-2.ensures
