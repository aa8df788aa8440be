-- The rows of a chart, event by event.
use Rattle.std.proofs.Common.{◌≡◌, ◌∙◌, ◌+◌, ◌++◌, ℕ, List, [], ◌∷◌, length, refl, sym, ap, length-append, Ok}
use Rattle.std.specs.Prelude.{Option, Some, None}
use Rattle.fabric_steps.specs.Event.{Event, Seen}
use Rattle.chart_rows.specs.declared.row.Row.{Row}
use Rattle.chart_rows.specs.PageView.{PageView}
use Rattle.chart_links.specs.declared.window.Place.{Place}
use Rattle.chart_links.specs.declared.window.Place.TheVariants as places
use Rattle.chart_links.specs.ChartView.{ChartView, row_at, row_of, head_of, row_for, head_row, rows_with, place_for, counted, drawn, charted, headed}
use Rattle.chart_links.specs.Window.{place_in}
use Rattle.chart_links.specs.Lanes.{followed}

counted_rows : (place : Place) (p : PageView) → (counted place p).rows ≡ p.rows
counted_rows places.Hidden p = refl
counted_rows places.Before p = refl
counted_rows places.Shown p = refl
counted_rows places.After p = refl
counted_rows places.Omitted p = refl

drawn_rows : (o : Option ℕ) (r : Row) (p : PageView) → length (drawn o r p).rows ≡ rows_with o (length p.rows)
drawn_rows (Some row) r p = length-append p.rows (r ∷ [])
drawn_rows None r p = refl

next_at : (place : Place) (n row : ℕ) → row_at place n ≡ Some row → row ≡ n
next_at places.Shown n row e = cc
next_at places.Hidden n row e = absurd cc
next_at places.Before n row e = absurd cc
next_at places.After n row e = absurd cc
next_at places.Omitted n row e = absurd cc

pub next : (v : ChartView) (line : ℕ) (event : Event) (what : Seen) (row : ℕ) → row_for v line event what ≡ Some row → row ≡ length v.page.rows
next v line event what row e = next_at (place_for v line event what) (length v.page.rows) row e

pub rows : (v : ChartView) (line : ℕ) (event : Event) (what : Seen) → length (charted v line event what).page.rows ≡ rows_with (row_for v line event what) (length v.page.rows)
rows v line event what =
    let place : Place = place_for v line event what in
    let n : ℕ = length v.page.rows in
    drawn_rows (row_at place n) (row_of line event (Ok what) (followed v.courses (row_at place n) event what).deed) (counted place v.page)
    ∙ ap (λ (rs : List Row). rows_with (row_at place n) (length rs)) (counted_rows place v.page)

pub head_next : (v : ChartView) (line row : ℕ) → head_row v line ≡ Some row → row ≡ length v.page.rows
head_next v line row e = next_at (place_in v.window (length v.page.rows) line) (length v.page.rows) row e

pub head_rows : (v : ChartView) (line : ℕ) → length (headed v line).page.rows ≡ rows_with (head_row v line) (length v.page.rows)
head_rows v line =
    let n : ℕ = length v.page.rows in
    let place : Place = place_in v.window n line in
    drawn_rows (row_at place n) (head_of line) (counted place v.page)
    ∙ ap (λ (rs : List Row). rows_with (row_at place n) (length rs)) (counted_rows place v.page)
