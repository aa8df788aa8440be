use Rattle.std.proofs.Common.{◌≡◌, ◌++◌, drop, None}
use Rattle.svg_text.specs.Shapes.{shapes_text}
use Rattle.search_picture.specs.Picture.{frames}
use Rattle.search_picture.proofs.axis.put_frames.Given as goal

abbrev pub invariant-loop-request : goal.invariant-loop-request
invariant-loop-request l = record {
  shapes : l.out.items ++ shapes_text (frames l.width l.before l.row (drop l.request-index l.requests)) ≡ l.fn.out.items ++ shapes_text (frames l.width None 0 l.requests);
  row : l.row ≡ l.request-index;
}
