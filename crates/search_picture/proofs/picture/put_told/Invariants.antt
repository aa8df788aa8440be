use Rattle.std.proofs.Common.{◌≡◌, ◌+◌, ◌*◌, ◌++◌, drop}
use Rattle.svg_text.specs.Shapes.{shapes_text}
use Rattle.search_picture.specs.Picture.{told}
use Rattle.search_picture.proofs.picture.put_told.Given as goal

abbrev pub invariant-loop-line : goal.invariant-loop-line
invariant-loop-line l = record {
  shapes : l.out.items ++ shapes_text (told l.y (drop l.line-index l.lines)) ≡ l.fn.out.items ++ shapes_text (told (l.bottom + 24) l.lines);
  y : l.y ≡ l.bottom + 24 + 16 * l.line-index;
}
