use Rattle.std.proofs.Common.{◌∙◌, ◌+◌, ◌++◌, ap, ℕ}
use Rattle.svg_text.specs.Shapes.{shapes_text}
use Rattle.chart_levels.specs.Pages.{line_shapes}
use Rattle.chart_levels.proofs.Steps.{line-next, line-past}
use Rattle.chart_levels.proofs.page.put_all.Goals as goal

pub loop-place-preserved : goal.loop-place-preserved
loop-place-preserved c =
    let left = c.args.left in
    let rows = c.args.rows in
    let l = c.index-lines-place.result in
    let o = c.loop-place.out.items in
    line-next left rows c.args.lines.now c.loop-place.place l o c.put_line.new.out.items c.loop-place-test.true c.index-lines-place.is
    (c.in_ok-put_line.ensures ∙ ap (λ (n : ℕ). o ++ shapes_text (line_shapes (left + n) rows l)) c.reach_of.ensures.value)
    ∙ c.loop-place.invariant

pub returns : goal.returns
returns c = line-past c.args.left c.args.rows c.args.lines.now c.loop-place.place c.loop-place.out.items c.loop-place-test.false ∙ c.loop-place.invariant
