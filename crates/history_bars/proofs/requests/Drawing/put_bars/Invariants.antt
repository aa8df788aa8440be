use Rattle.std.proofs.Common.{◌≡◌, ◌++◌, drop}
use Rattle.std.specs.Ordering.{nat_cmp}
use Rattle.std.specs.BTreeMap.{get}
use Rattle.svg_text.specs.Shapes.{shapes_text}
use Rattle.history_bars.specs.Signs.{signs_of, joined}
use Rattle.history_bars.specs.Bars.{bars, ends_of}
use Rattle.history_bars.proofs.requests.Drawing.put_bars.Given as goal

abbrev pub invariant-loop-seen : goal.invariant-loop-seen
invariant-loop-seen l = record {
  shapes : l.self.out.items ++ shapes_text (bars l.row.view.now l.row.records.now (get nat_cmp l.row.acted.now) (get nat_cmp l.row.answers.now) l.row.requester l.row.top l.self.ends.items (drop l.seen-index l.row.records.now))
      ≡ l.fn.self.out.items ++ shapes_text (bars l.row.view.now l.row.records.now (get nat_cmp l.row.acted.now) (get nat_cmp l.row.answers.now) l.row.requester l.row.top l.fn.self.ends.items l.row.records.now);
  ends : ends_of l.row.view.now l.row.records.now (get nat_cmp l.row.acted.now) (get nat_cmp l.row.answers.now) l.row.requester l.self.ends.items (drop l.seen-index l.row.records.now)
      ≡ ends_of l.row.view.now l.row.records.now (get nat_cmp l.row.acted.now) (get nat_cmp l.row.answers.now) l.row.requester l.fn.self.ends.items l.row.records.now;
  signs : joined l.self.signs (signs_of (bars l.row.view.now l.row.records.now (get nat_cmp l.row.acted.now) (get nat_cmp l.row.answers.now) l.row.requester l.row.top l.self.ends.items (drop l.seen-index l.row.records.now)))
      ≡ joined l.fn.self.signs (signs_of (bars l.row.view.now l.row.records.now (get nat_cmp l.row.acted.now) (get nat_cmp l.row.answers.now) l.row.requester l.row.top l.fn.self.ends.items l.row.records.now));
}
