-- What the rules look at.
use Rattle.search_places.specs.Places.{IsPlace}
use Rattle.search_forced.specs.Catalogs.{IsCatalog}
use Rattle.search_forced.specs.declared.scene.Scene.{Scene}

-- the place is one of the log, and what is known of the log is so
pub record IsScene (scene : Scene) : Type 0 where
  pub place : IsPlace scene.log.now scene.place.now
  pub catalog : IsCatalog scene.log.now scene.catalog.now
