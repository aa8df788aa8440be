use Rattle.std.proofs.Common.{◌≡◌, ℕ, ◌<◌, Some}
use Rattle.std.specs.Prelude.{slice_get}
use Rattle.search_others.specs.Spared.{Holds}
use Rattle.search_others.proofs.others.all_hold.Given as goal

abbrev pub invariant-loop-b : goal.invariant-loop-b
invariant-loop-b l = (b i : ℕ) → i < l.b-index → slice_get l.list i ≡ Some b → Holds l.log l.place.state l.question b
