-- The page of a chart with step lines between its results and its arrows.
use Rattle.std.specs.Prelude.{ℕ, ◌+◌, ◌*◌, ◌/◌, min, List, [], ◌∷◌, ◌++◌, length}
use Rattle.svg_text.specs.Shapes.{Shape, page_text}
use Rattle.chart_rows.specs.Layout.{width_of, levels_left, top_of}
use Rattle.chart_rows.specs.PageView.{PageView}
use Rattle.chart_levels.specs.declared.drawing.Strip.{Strip}
use Rattle.chart_levels.specs.StepLineView.{StepLineView}
use Rattle.chart_levels.specs.Strips.{head, steps_shapes, stripes}

-- a step line is 64 pixels wide; more than 500 would lie above each other
abbrev pub reach_of : ℕ → ℕ
reach_of count = 64 * min count 500

abbrev pub strip_of : StepLineView → ℕ → ℕ → Strip
strip_of l left rows = record { lane = l.lane; level = l.level; left = left; greatest = l.greatest; bottom = top_of rows }

-- a step line beside so many rows
abbrev pub line_shapes : ℕ → ℕ → StepLineView → List Shape
line_shapes left rows l = head (strip_of l left rows) ++ (steps_shapes (strip_of l left rows) l.steps ++ stripes (strip_of l left rows) (rows / 40))

-- step lines, from this place on
abbrev pub beside : ℕ → ℕ → ℕ → List StepLineView → List Shape
beside left rows place [] = []
beside left rows place (l ∷ ls) = line_shapes (left + reach_of place) rows l ++ beside left rows (place + 1) ls

-- the page of a chart with these shapes
abbrev pub levelled_page : PageView → List StepLineView → List Shape → List ℕ
levelled_page p lines ss = page_text (width_of p.frame) (top_of (length p.rows) + 30) (ss ++ beside (levels_left p.letters) (length p.rows) 0 lines)
