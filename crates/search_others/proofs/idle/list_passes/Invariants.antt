use Rattle.std.proofs.Common.{◌≡◌, ℕ, ◌<◌, Some}
use Rattle.std.specs.Prelude.{slice_get}
use Rattle.search_others.specs.Passing.{Passes}
use Rattle.search_others.proofs.idle.list_passes.Given as goal

abbrev pub invariant-loop-b : goal.invariant-loop-b
invariant-loop-b l = (b i : ℕ) → i < l.b-index → slice_get l.list i ≡ Some b → Passes l.log l.place.state l.idler b
