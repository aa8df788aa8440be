use Rattle.std.proofs.Common.{◌∙◌, refl, arith}
use Rattle.std.specs.Prelude.{slice_index}
use Rattle.history_bars.proofs.Steps.{rows-next, bottom-next, rows-past, bottom-past}
use Rattle.history_bars.proofs.Occurring.{rows-signs-next, rows-signs-past}
use Rattle.history_bars.proofs.rows.put_rows_of.Goals as goal

pub loop-requester-preserved : goal.loop-requester-preserved
loop-requester-preserved c = record {
  shapes =
      rows-next c.args.shown.now.view.now c.args.shown.now.width c.args.shown.now.records.now c.args.shown.now.history.now c.loop-requester.top c.in_ok-height.height c.args.requesters.now c.loop-requester.requester-index
      (slice_index c.args.requesters.now c.loop-requester.requester-index) c.loop-requester.drawing.out.items c.put_row.new.drawing.out.items
      c.loop-requester-test.true refl c.in_ok-height.ensures.shapes c.in_ok-height.ensures.height
      ∙ c.loop-requester.invariant.shapes;
  bottom =
      bottom-next c.args.shown.now.view.now c.args.shown.now.records.now c.args.shown.now.history.now c.loop-requester.top c.in_ok-height.height c.args.requesters.now c.loop-requester.requester-index
      (slice_index c.args.requesters.now c.loop-requester.requester-index) c.loop-requester-test.true refl c.in_ok-height.ensures.height
      ∙ c.loop-requester.invariant.bottom;
  signs =
      rows-signs-next c.args.shown.now.view.now c.args.shown.now.width c.args.shown.now.records.now c.args.shown.now.history.now c.loop-requester.top c.in_ok-height.height c.args.requesters.now c.loop-requester.requester-index
      (slice_index c.args.requesters.now c.loop-requester.requester-index) c.loop-requester.drawing.signs c.put_row.new.drawing.signs
      c.loop-requester-test.true refl c.in_ok-height.ensures.signs c.in_ok-height.ensures.height
      ∙ c.loop-requester.invariant.signs;
  low = omega (arith, c.loop-requester.invariant.low, c.in_ok-height.ensures.range);
}

pub returns-clause-shapes : goal.returns-clause-shapes
returns-clause-shapes c =
    rows-past c.args.shown.now.view.now c.args.shown.now.width c.args.shown.now.records.now c.args.shown.now.history.now c.loop-requester.top c.args.requesters.now c.loop-requester.requester-index c.loop-requester.drawing.out.items
    c.loop-requester-test.false
    ∙ c.loop-requester.invariant.shapes

pub returns-clause-bottom : goal.returns-clause-bottom
returns-clause-bottom c =
    bottom-past c.args.shown.now.view.now c.args.shown.now.records.now c.args.shown.now.history.now c.loop-requester.top c.args.requesters.now c.loop-requester.requester-index c.loop-requester-test.false
    ∙ c.loop-requester.invariant.bottom

pub returns-clause-signs : goal.returns-clause-signs
returns-clause-signs c =
    rows-signs-past c.args.shown.now.view.now c.args.shown.now.width c.args.shown.now.records.now c.args.shown.now.history.now c.loop-requester.top c.args.requesters.now c.loop-requester.requester-index c.loop-requester.drawing.signs
    c.loop-requester-test.false
    ∙ c.loop-requester.invariant.signs
