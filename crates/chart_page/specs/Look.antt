-- How the heading and the lines of the parts look, for the curious, pixel by pixel. Shapes.antt says what a chart shows.
use Rattle.std.specs.Prelude.{ℕ, zero, suc, ◌+◌, ◌-◌, ◌*◌, Bool, true, false, if◌then◌else◌, List, [], ◌∷◌, ◌++◌, codes}
use Rattle.svg_text.specs.declared.colour.Colour.{Colour}
use Rattle.svg_text.specs.declared.colour.Colour.TheVariants as colours
use Rattle.svg_text.specs.declared.shapes.Block.{Block}
use Rattle.svg_text.specs.declared.shapes.Label.{Label}
use Rattle.svg_text.specs.Shapes.{Shape}
use Rattle.chart_rows.specs.declared.layout.Parts.{Parts}
use Rattle.chart_rows.specs.declared.layout.Parts.TheVariants as drawn
use Rattle.chart_rows.specs.declared.layout.Frame.{Frame}
use Rattle.chart_rows.specs.declared.row.Deed.{Deed}
use Rattle.chart_rows.specs.declared.row.Deed.TheVariants as deeds
use Rattle.chart_rows.specs.Layout.{requester_x, switch_x, memory_x, width_of, top_of, point}
use Rattle.chart_rows.specs.Words as said
use Rattle.chart_marks.specs.Look.{block_at, label_at, line, pen}

-- ---- rows

-- what is refused is told in red
abbrev pub row_colour : Deed → Colour
row_colour deeds.Nothing = colours.Red
row_colour _ = colours.Black

abbrev pub band_block : Frame → ℕ → Block
band_block frame row = block_at 0 (top_of row) (width_of frame) (top_of row + 20) colours.White colours.White 0

-- ---- the heading

-- a line in letters of 16 pixels, red where it tells a fault or a refusal
abbrev pub title_label : Bool → Label
title_label is_red = record { x = 10; y = 22; size = 16; colour = if is_red then colours.Red else colours.Black; is_centred = false }

-- ---- the lines of the parts

abbrev pub column : ℕ → ℕ → List ℕ → List Shape
column x bottom name =
    Shape.Written (record { x = x; y = 87; size = 12; colour = colours.Black; is_centred = true }) name
    ∷ line (pen colours.Grey 1 0) (point x 92) (point x bottom) name
    ∷ []

abbrev pub requester_column : Frame → ℕ → ℕ → List Shape
requester_column frame port bottom = column (requester_x frame port) bottom (said.requester_words port)

-- of so many requesters
abbrev pub requester_columns : Frame → ℕ → ℕ → List Shape
requester_columns frame zero bottom = []
requester_columns frame (suc k) bottom = requester_columns frame k bottom ++ requester_column frame (k + 1) bottom

abbrev pub left_columns_of : Parts → Frame → ℕ → List Shape
left_columns_of (drawn.All requesters) frame bottom = requester_columns frame requesters bottom
left_columns_of (drawn.Requester port) frame bottom = requester_column frame port bottom
left_columns_of drawn.Memory frame bottom = []

abbrev pub left_columns : Frame → ℕ → List Shape
left_columns frame bottom = left_columns_of frame.parts frame bottom

abbrev pub switch_column : Frame → ℕ → List Shape
switch_column frame bottom = column (switch_x frame) bottom (codes "switch")

abbrev pub memory_column : Frame → ℕ → List Shape
memory_column frame bottom = column (memory_x frame) bottom (codes "memory")

abbrev pub right_column_of : Parts → Frame → ℕ → List Shape
right_column_of (drawn.Requester port) frame bottom = []
right_column_of _ frame bottom = memory_column frame bottom

abbrev pub right_column : Frame → ℕ → List Shape
right_column frame bottom = right_column_of frame.parts frame bottom

abbrev pub columns : Frame → ℕ → List Shape
columns frame bottom = left_columns frame bottom ++ (switch_column frame bottom ++ right_column frame bottom)

-- a name in the stripe that ends at y, on white
abbrev pub name : ℕ → ℕ → List ℕ → List Shape
name x y words =
    Shape.Filled (block_at (x - 44) (y - 19) (x + 44) (y - 2) colours.White colours.White 0) words
    ∷ Shape.Written (record { x = x; y = y - 6; size = 12; colour = colours.Grey; is_centred = true }) words
    ∷ []

abbrev pub requester_name : Frame → ℕ → ℕ → List Shape
requester_name frame port y = name (requester_x frame port) y (said.requester_words port)

-- of so many requesters
abbrev pub requester_names : Frame → ℕ → ℕ → List Shape
requester_names frame zero y = []
requester_names frame (suc k) y = requester_names frame k y ++ requester_name frame (k + 1) y

abbrev pub left_names_of : Parts → Frame → ℕ → List Shape
left_names_of (drawn.All requesters) frame y = requester_names frame requesters y
left_names_of (drawn.Requester port) frame y = requester_name frame port y
left_names_of drawn.Memory frame y = []

abbrev pub left_names : Frame → ℕ → List Shape
left_names frame y = left_names_of frame.parts frame y

abbrev pub right_name_of : Parts → Frame → ℕ → List Shape
right_name_of (drawn.Requester port) frame y = []
right_name_of _ frame y = name (memory_x frame) y (codes "memory")

abbrev pub right_name : Frame → ℕ → List Shape
right_name frame y = right_name_of frame.parts frame y

abbrev pub names : Frame → ℕ → List Shape
names frame y = left_names frame y ++ (name (switch_x frame) y (codes "switch") ++ right_name frame y)

-- the names again in so many stripes, one below each 40 rows
abbrev pub stripes : Frame → ℕ → List Shape
stripes frame zero = []
stripes frame (suc k) = stripes frame k ++ names frame (top_of (40 * (k + 1)))

-- ---- what isn't shown

abbrev pub grey_text : ℕ → ℕ → List ℕ → List Shape
grey_text x y words = Shape.Written (label_at x y colours.Grey) words ∷ []
