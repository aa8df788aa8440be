use Rattle.std.proofs.Common.{◌∙◌, ◌++◌, ap, length, List, ℕ}
use Rattle.std.proofs.lemmas.Result.{on_ok_weaker}
use Rattle.chart_rows.specs.Layout.{width_of, levels_left}
use Rattle.chart_rows.specs.declared.row.Row.{Row}
use Rattle.chart_rows.specs.PageView.{PageView}
use Rattle.chart_levels.specs.Pages.{beside}
use Rattle.chart_levels.proofs.Steps.{then-beside, levelled}
use Rattle.chart_levels.proofs.page.put_levelled_page.Goals as goal

pub returns-clause-ok : goal.returns-clause-ok
returns-clause-ok c =
    let o = c.args.out.now.items in
    let p = c.args.page.now in
    let lines = c.args.lines.now in
    let left = c.levels_left.result in
    let rows = length c.as_slice.result.now in
    on_ok_weaker c.put_page.result
    (λ d ss is. d (ss ++ beside left rows 0 lines) (then-beside c.args.shapes.items c.put_all.new.out.items ss (beside left rows 0 lines) is c.in_ok-put_all.ensures)
    ∙ ap (λ (t : List ℕ). o ++ t)
    (levelled p lines ss left rows c.width_of-width.result c.top_of-height.result
    (c.levels_left.ensures.value ∙ ap (λ (v : PageView). levels_left v.letters) c.page.view_is)
    (ap (λ (rs : List Row). length rs) c.as_slice.ensures.value ∙ ap (λ (v : PageView). length v.rows) c.page.view_is)
    (c.width_of-width.ensures.value ∙ ap (λ (v : PageView). width_of v.frame) c.page.view_is) c.top_of-height.ensures.value))
    c.put_page.ensures.ok
