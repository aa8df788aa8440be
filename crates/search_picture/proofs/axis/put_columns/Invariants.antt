use Rattle.std.proofs.Common.{◌≡◌, ◌++◌, drop}
use Rattle.svg_text.specs.Shapes.{shapes_text}
use Rattle.search_picture.specs.Picture.{columns}
use Rattle.search_picture.proofs.axis.put_columns.Given as goal

abbrev pub invariant-loop-line : goal.invariant-loop-line
invariant-loop-line l = record {
  shapes : l.out.items ++ shapes_text (columns l.bottom l.column (drop l.line-index l.lines)) ≡ l.fn.out.items ++ shapes_text (columns l.bottom 0 l.lines);
  column : l.column ≡ l.line-index;
}
