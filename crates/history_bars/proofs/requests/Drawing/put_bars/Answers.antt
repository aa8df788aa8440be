use Rattle.std.proofs.Common.{◌∙◌}
use Rattle.std.specs.Ordering.{nat_cmp}
use Rattle.std.specs.BTreeMap.{get}
use Rattle.history_bars.proofs.Steps.{bars-next, ends-next, bars-past, ends-past}
use Rattle.history_bars.proofs.Occurring.{bars-signs-next, bars-signs-past}
use Rattle.history_bars.proofs.requests.Drawing.put_bars.Goals as goal

pub loop-seen-preserved : goal.loop-seen-preserved
loop-seen-preserved c = record {
  shapes =
      bars-next c.args.row.view.now c.args.row.records.now (get nat_cmp c.args.row.acted.now) (get nat_cmp c.args.row.answers.now) c.args.row.requester c.args.row.top c.loop-seen.self.ends.items c.put_record.new.self.ends.items
      c.args.row.records.now c.loop-seen.seen-index c.seen-item.result c.loop-seen.self.out.items c.put_record.new.self.out.items
      c.loop-seen-test.true c.seen-item.is c.in_ok-put_record.ensures.shapes c.in_ok-put_record.ensures.ends
      ∙ c.loop-seen.invariant.shapes;
  ends =
      ends-next c.args.row.view.now c.args.row.records.now (get nat_cmp c.args.row.acted.now) (get nat_cmp c.args.row.answers.now) c.args.row.requester c.loop-seen.self.ends.items c.put_record.new.self.ends.items
      c.args.row.records.now c.loop-seen.seen-index c.seen-item.result c.loop-seen-test.true c.seen-item.is c.in_ok-put_record.ensures.ends
      ∙ c.loop-seen.invariant.ends;
  signs =
      bars-signs-next c.args.row.view.now c.args.row.records.now (get nat_cmp c.args.row.acted.now) (get nat_cmp c.args.row.answers.now) c.args.row.requester c.args.row.top c.loop-seen.self.ends.items c.put_record.new.self.ends.items
      c.args.row.records.now c.loop-seen.seen-index c.seen-item.result c.loop-seen.self.signs c.put_record.new.self.signs
      c.loop-seen-test.true c.seen-item.is c.in_ok-put_record.ensures.signs c.in_ok-put_record.ensures.ends
      ∙ c.loop-seen.invariant.signs;
}

pub returns : goal.returns
returns c = record {
  shapes =
      bars-past c.args.row.view.now c.args.row.records.now (get nat_cmp c.args.row.acted.now) (get nat_cmp c.args.row.answers.now) c.args.row.requester c.args.row.top c.loop-seen.self.ends.items
      c.args.row.records.now c.loop-seen.seen-index c.loop-seen.self.out.items c.loop-seen-test.false
      ∙ c.loop-seen.invariant.shapes;
  ends =
      ends-past c.args.row.view.now c.args.row.records.now (get nat_cmp c.args.row.acted.now) (get nat_cmp c.args.row.answers.now) c.args.row.requester c.loop-seen.self.ends.items
      c.args.row.records.now c.loop-seen.seen-index c.loop-seen-test.false
      ∙ c.loop-seen.invariant.ends;
  signs =
      bars-signs-past c.args.row.view.now c.args.row.records.now (get nat_cmp c.args.row.acted.now) (get nat_cmp c.args.row.answers.now) c.args.row.requester c.args.row.top c.loop-seen.self.ends.items
      c.args.row.records.now c.loop-seen.seen-index c.loop-seen.self.signs c.loop-seen-test.false
      ∙ c.loop-seen.invariant.signs;
}
