use Rattle.std.proofs.Common.{◌∙◌}
use Rattle.std.specs.Ordering.{nat_cmp}
use Rattle.std.specs.BTreeMap.{get}
use Rattle.history_bars.proofs.Steps.{row-by, height-by}
use Rattle.history_bars.proofs.Occurring.{row-signs}
use Rattle.history_bars.proofs.rows.put_row.Goals as goal

pub returns-clause-shapes : goal.returns-clause-shapes
returns-clause-shapes c =
    row-by c.args.shown.now.view.now c.args.shown.now.width c.args.shown.now.records.now c.args.shown.now.history.now c.args.requester c.args.top (get nat_cmp c.in_ok-acted.acted) (get nat_cmp c.in_ok-answers.answers)
    c.clear.new.self.items c.as_slice.result.now c.args.drawing.now.out.items c.put_bars.new.self.out.items c.put_frame_of.new.out.items
    (λ j. λ k. c.in_ok-acted.ensures k j) (λ j. λ k. c.in_ok-answers.ensures k j) c.clear.ensures.items
    c.in_ok-put_bars.ensures.shapes (c.as_slice.ensures.value ∙ c.in_ok-put_bars.ensures.ends) c.in_ok-put_frame_of.ensures

pub returns-clause-height : goal.returns-clause-height
returns-clause-height c =
    height-by c.args.shown.now.view.now c.args.shown.now.records.now c.args.shown.now.history.now c.args.requester (get nat_cmp c.in_ok-acted.acted) (get nat_cmp c.in_ok-answers.answers)
    c.clear.new.self.items c.as_slice-2.result.now c.height_of.result
    (λ j. λ k. c.in_ok-acted.ensures k j) (λ j. λ k. c.in_ok-answers.ensures k j) c.clear.ensures.items
    (c.as_slice-2.ensures.value ∙ c.in_ok-put_bars.ensures.ends) c.height_of.ensures.height

pub returns-clause-signs : goal.returns-clause-signs
returns-clause-signs c =
    row-signs c.args.shown.now.view.now c.args.shown.now.width c.args.shown.now.records.now c.args.shown.now.history.now c.args.requester c.args.top (get nat_cmp c.in_ok-acted.acted) (get nat_cmp c.in_ok-answers.answers)
    c.clear.new.self.items c.args.drawing.now.signs c.put_bars.new.self.signs
    (λ j. λ k. c.in_ok-acted.ensures k j) (λ j. λ k. c.in_ok-answers.ensures k j) c.clear.ensures.items c.in_ok-put_bars.ensures.signs
