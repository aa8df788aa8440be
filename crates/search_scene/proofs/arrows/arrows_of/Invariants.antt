use Rattle.std.proofs.Common.{length, All}
use Rattle.search_scene.specs.Scenes.{Joins}
use Rattle.search_scene.proofs.arrows.arrows_of.Given as goal

abbrev pub invariant-loop-at : goal.invariant-loop-at
invariant-loop-at l = All (Joins (length l.submissions)) l.arrows.items
