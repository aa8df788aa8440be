-- What is known of a log before the search begins.
use Rattle.log_runs.specs.LogView.{LogView}
use Rattle.search_others.specs.Known.{AreOthers}
use Rattle.search_forced.specs.declared.catalog.Catalog.{Catalog}

abbrev pub IsCatalog : LogView → Catalog → Type 0
IsCatalog log catalog = AreOthers log catalog.others
