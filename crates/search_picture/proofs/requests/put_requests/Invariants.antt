use Rattle.std.proofs.Common.{◌≡◌, ◌++◌, drop}
use Rattle.svg_text.specs.Shapes.{shapes_text}
use Rattle.search_picture.specs.Picture.{rows}
use Rattle.search_picture.proofs.requests.put_requests.Given as goal

abbrev pub invariant-loop-request : goal.invariant-loop-request
invariant-loop-request l = record {
  shapes : l.out.items ++ shapes_text (rows l.row (drop l.request-index l.requests)) ≡ l.fn.out.items ++ shapes_text (rows 0 l.requests);
  row : l.row ≡ l.request-index;
}
