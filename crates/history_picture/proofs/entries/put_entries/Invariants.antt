use Rattle.std.proofs.Common.{◌≡◌, ◌++◌, drop}
use Rattle.svg_text.specs.Shapes.{shapes_text}
use Rattle.history_bars.specs.Signs.{signs_of, joined}
use Rattle.history_picture.specs.Picture.{entries}
use Rattle.history_picture.proofs.entries.put_entries.Given as goal

abbrev pub invariant-loop-entry : goal.invariant-loop-entry
invariant-loop-entry l = record {
  shapes : l.out.items ++ shapes_text (entries l.view l.bottom l.offset (drop l.entry-index l.shown)) ≡ l.fn.out.items ++ shapes_text (entries l.view l.bottom 0 l.shown);
  signs : joined l.signs (signs_of (entries l.view l.bottom l.offset (drop l.entry-index l.shown))) ≡ signs_of (entries l.view l.bottom 0 l.shown);
  offset : l.offset ≡ l.entry-index;
}
