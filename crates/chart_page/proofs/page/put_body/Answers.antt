use Rattle.std.proofs.Common.{◌∙◌, ◌++◌, ◌+◌, ◌/◌, ap, length, ℕ, None}
use Rattle.svg_text.specs.Shapes.{shapes_text}
use Rattle.chart_page.specs.Look.{columns, stripes}
use Rattle.chart_page.specs.Shapes.{each, bands, row_strokes, open_strokes, row_note, bottom_of}
use Rattle.chart_page.proofs.Steps.{both}
use Rattle.chart_page.proofs.page.put_body.Goals as goal

pub returns : goal.returns
returns c =
    let n = c.args.frame in
    let rs = c.args.rows.now in
    let os = c.args.opens.now in
    let p1 = c.put_bands.new.out.items in
    let p2 = c.put_columns.new.out.items in
    let p3 = c.put_stripes.new.out.items in
    let p4 = c.put_all_strokes.new.out.items in
    let p5 = c.put_all_open.new.out.items in
    let last = c.put_notes.new.out.items in
    both c.args.out.now.items p1 last (bands n None 0 rs) _ c.in_ok-put_bands.ensures
    (both p1 p2 last (columns n (bottom_of rs + 6)) _
    (c.in_ok-put_columns.ensures ∙ ap (λ (b : ℕ). p1 ++ shapes_text (columns n (b + 6))) c.bottom_of-bottom.ensures.value)
    (both p2 p3 last (stripes n (length rs / 40)) _ c.in_ok-put_stripes.ensures
    (both p3 p4 last (each (row_strokes n) 0 rs) _ c.in_ok-put_all_strokes.ensures
    (both p4 p5 last (open_strokes n os) (each (row_note n) 0 rs) c.in_ok-put_all_open.ensures c.in_ok-put_notes.ensures))))
