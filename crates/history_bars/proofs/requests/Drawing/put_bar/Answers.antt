use Rattle.std.proofs.Common.{◌∙◌, ◌++◌, ap, sym}
use Rattle.svg_text.specs.Shapes.{shapes_text}
use Rattle.history_bars.specs.Layout.{dot_at}
use Rattle.history_bars.specs.Said.{Said}
use Rattle.history_bars.specs.Words.{dot_words}
use Rattle.history_bars.specs.Bars.{block_shapes, text_shapes, dot_shapes}
use Rattle.history_bars.specs.Signs.{joined}
use Rattle.history_bars.proofs.Steps.{both}
use Rattle.history_bars.proofs.Occurring.{bar-signs}
use Rattle.history_bars.proofs.requests.Drawing.put_bar.Goals as goal

pub returns-clause-shapes : goal.returns-clause-shapes
returns-clause-shapes c =
    let v = c.args.row.view.now in
    let q = c.args.asked.now.request in
    let texts = c.args.self.now.texts in
    let o = c.args.self.now.out.items in
    let p = c.put_block.new.self.out.items in
    let q1 = c.put_texts.new.out.items in
    let last = c.put_dot_of.new.out.items in
    both o p last (block_shapes v c.args.row.records.now c.args.asked.now.op.now q c.args.bar c.args.top) _ c.in_ok-put_block.ensures.shapes
    (both p q1 last (text_shapes texts c.args.bar c.args.top) (dot_shapes (dot_at v.scale q.acted) c.args.top (dot_words q))
    (c.in_ok-put_texts.ensures ∙ ap (λ (t : Said). p ++ shapes_text (text_shapes t c.args.bar c.args.top)) c.put_block.ensures.texts)
    c.in_ok-put_dot_of.ensures)

pub returns-clause-signs : goal.returns-clause-signs
returns-clause-signs c =
    let q = c.args.asked.now.request in
    c.put_block.ensures.signs ∙ c.with_bar-self.ensures
    ∙ ap (joined c.args.self.now.signs) (sym (bar-signs c.args.row.view.now c.args.row.records.now c.args.asked.now.op.now q c.args.self.now.texts c.args.bar c.args.top))
