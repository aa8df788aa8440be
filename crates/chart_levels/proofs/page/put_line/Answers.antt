use Rattle.std.proofs.Common.{◌∙◌, ◌++◌, ◌/◌, ap, List}
use Rattle.svg_text.specs.Shapes.{shapes_text}
use Rattle.chart_levels.specs.declared.step_line.Step.{Step}
use Rattle.chart_levels.specs.declared.drawing.Strip.{Strip}
use Rattle.chart_levels.specs.Strips.{head, steps_shapes, stripes}
use Rattle.chart_levels.specs.Pages.{strip_of}
use Rattle.chart_levels.proofs.Steps.{both}
use Rattle.chart_levels.proofs.page.put_line.Goals as goal

pub returns : goal.returns
returns c =
    let o = c.args.out.now.items in
    let t = c.strip_of-strip.result in
    let ss = c.steps.result.now in
    let rows = c.args.rows in
    let p1 = c.put_head.new.out.items in
    let p2 = c.put_steps.new.out.items in
    let last = c.put_stripes.new.out.items in
    both o p1 last (head t) _ c.in_ok-put_head.ensures (both p1 p2 last (steps_shapes t ss) (stripes t (rows / 40)) c.in_ok-put_steps.ensures c.in_ok-put_stripes.ensures)
    ∙ ap (λ (x : Strip). o ++ shapes_text (head x ++ (steps_shapes x ss ++ stripes x (rows / 40)))) c.strip_of-strip.ensures
    ∙ ap (λ (xs : List Step). o ++ shapes_text (head (strip_of c.args.line.now c.args.left rows) ++ (steps_shapes (strip_of c.args.line.now c.args.left rows) xs ++ stripes (strip_of c.args.line.now c.args.left rows) (rows / 40)))) c.steps.ensures
