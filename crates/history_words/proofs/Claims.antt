-- Entries of a history.
use Rattle.std.proofs.Common.{◌≡◌, ℕ, ◌<◌, List, length, get_or, Some, refl, ap, ◌∙◌}
use Rattle.std.specs.Prelude.{slice_get}
use Rattle.std.proofs.lemmas.Option.{slice_get_read}

-- what `rs[a]` reads
pub read_at : {X : Type 0} (rs : List X) (a : ℕ) (r s : X) → a < length rs → r ≡ get_or rs a r → r ≡ s → slice_get rs a ≡ Some s
read_at rs a r s within read e = slice_get_read rs (length rs) a r refl within read ∙ ap Some e
