use Rattle.std.proofs.Common.{◌≡◌, ◌≤◌, ◌+◌, ◌*◌, ◌++◌, drop}
use Rattle.svg_text.specs.Shapes.{shapes_text}
use Rattle.history_bars.specs.Signs.{signs_of, joined}
use Rattle.history_bars.specs.Bars.{rows, rows_bottom}
use Rattle.history_bars.proofs.rows.put_rows_of.Given as goal

abbrev pub invariant-loop-requester : goal.invariant-loop-requester
invariant-loop-requester l = record {
  shapes : l.drawing.out.items ++ shapes_text (rows l.shown.view.now l.shown.width l.shown.records.now l.shown.history.now l.top (drop l.requester-index l.requesters))
      ≡ l.fn.drawing.out.items ++ shapes_text (rows l.shown.view.now l.shown.width l.shown.records.now l.shown.history.now 130 l.requesters);
  signs : joined l.drawing.signs (signs_of (rows l.shown.view.now l.shown.width l.shown.records.now l.shown.history.now l.top (drop l.requester-index l.requesters)))
      ≡ joined l.fn.drawing.signs (signs_of (rows l.shown.view.now l.shown.width l.shown.records.now l.shown.history.now 130 l.requesters));
  bottom : rows_bottom l.shown.view.now l.shown.records.now l.shown.history.now l.top (drop l.requester-index l.requesters) ≡ rows_bottom l.shown.view.now l.shown.records.now l.shown.history.now 130 l.requesters;
  low : l.top ≤ 130 + 10250 * l.requester-index;
}
