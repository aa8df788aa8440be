use Rattle.std.proofs.Common.{◌≡◌, ◌++◌, drop}
use Rattle.svg_text.specs.Shapes.{shapes_text}
use Rattle.search_picture.specs.Picture.{whys}
use Rattle.search_picture.proofs.arrows.put_whys.Given as goal

abbrev pub invariant-loop-arrow : goal.invariant-loop-arrow
invariant-loop-arrow l = l.out.items ++ shapes_text (whys l.requests (drop l.arrow-index l.arrows)) ≡ l.fn.out.items ++ shapes_text (whys l.requests l.arrows)
