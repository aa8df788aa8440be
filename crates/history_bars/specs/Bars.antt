-- The shapes of bars, and the rows that they stand in.
use Rattle.std.specs.Prelude.{ℕ, ◌+◌, ◌-◌, ◌*◌, ◌==◌, Bool, false, if◌then◌else◌, List, [], ◌∷◌, ◌++◌, length, Option, Some, None}
use Rattle.tlp_core.specs.Ops.{Op}
use Rattle.tlp_core.specs.Operation.{is_posted}
use Rattle.seq_memory.specs.Entries.{Entry}
use Rattle.history_words.specs.Records.{Record}
use Rattle.history_words.specs.declared.record.RecordOf.TheVariants as records
use Rattle.svg_text.specs.declared.colour.Colour.TheVariants as colours
use Rattle.svg_text.specs.declared.shapes.Block.{Block}
use Rattle.svg_text.specs.Shapes.{Shape}
use Rattle.history_bars.specs.declared.bars.Bar.{Bar}
use Rattle.history_bars.specs.declared.words.Request.{Request}
use Rattle.history_bars.specs.declared.marks.View.{View}
use Rattle.history_bars.specs.Layout.{x_at, acted_in, answer_in, bar_of, white_from, text_x, taken, dot_at, row_for, with_bar, rows_height}
use Rattle.history_bars.specs.Words.{kind_colour, tooltip_words, dot_words, requester_words, answer_at, moment_of}
use Rattle.history_bars.specs.Marks.{ruled, edge_of, thickness_of, label_at, plain_label}
use Rattle.history_bars.specs.Said.{Said, is_flawed, said_of, count_of}

-- ---- bars

abbrev pub bar_block : ℕ → Bool → Op → Bar → Block
bar_block top flawed op bar = record {
  left = x_at bar.start + 1;
  top = top;
  right = x_at bar.end - 1;
  bottom = top + 34;
  fill = kind_colour op;
  edge = edge_of flawed;
  thickness = thickness_of flawed;
  is_open = bar.is_open;
}

abbrev pub dot_shapes : Option ℕ → ℕ → List ℕ → List Shape
dot_shapes None top words = []
dot_shapes (Some offset) top words = Shape.Dotted (record { x = x_at offset - 48; y = top + 34 }) words ∷ []

abbrev pub block_shapes : View → List Record → Op → Request → Bar → ℕ → List Shape
block_shapes v rs op q bar top = Shape.Filled (bar_block top (is_flawed v.flawed q.requester q.number) op bar) (tooltip_words rs op q) ∷ []

-- white behind texts of so many characters
abbrev pub white_block : ℕ → ℕ → ℕ → ℕ → Block
white_block x top bottom count = record { left = x - 2; top = top; right = x + 8 * count; bottom = bottom; fill = colours.White; edge = colours.White; thickness = 0; is_open = false }

abbrev pub white_at : Option ℕ → ℕ → ℕ → ℕ → List Shape
white_at None x top count = []
white_at (Some from) x top count = Shape.Filled (white_block x (top + from) (top + 32) count) [] ∷ []

abbrev pub white_shapes : Said → Bar → ℕ → List Shape
white_shapes said bar top = white_at (white_from bar (count_of said) said.is_wrong) (text_x bar (count_of said)) top (count_of said)

-- what was asked, and below it what was answered, in red if another reply is expected
abbrev pub said_shapes : Said → Bar → ℕ → List Shape
said_shapes said bar top =
    Shape.Written (label_at (text_x bar (count_of said)) (top + 14) colours.Black) said.asked
    ∷ Shape.Written (label_at (text_x bar (count_of said)) (top + 28) (edge_of said.is_wrong)) said.answered
    ∷ []

abbrev pub text_shapes : Said → Bar → ℕ → List Shape
text_shapes said bar top = white_shapes said bar top ++ said_shapes said bar top

-- a bar, what is said at it, and its dot
abbrev pub bar_shapes : View → List Record → Op → Request → Said → Bar → ℕ → List Shape
bar_shapes v rs op q said bar top = block_shapes v rs op q bar top ++ (text_shapes said bar top ++ dot_shapes (dot_at v.scale q.acted) top (dot_words q))

abbrev pub bar_for : View → List Record → Op → Request → Option Bar
bar_for v rs op q = bar_of v.scale (is_posted op) q.n (moment_of (answer_at rs q.answer)) q.acted

abbrev pub placed_shapes : View → List Record → Op → Request → ℕ → List ℕ → Option Bar → List Shape
placed_shapes v rs op q top ends None = []
placed_shapes v rs op q top ends (Some bar) = bar_shapes v rs op q (said_of v rs op q) bar (top + 40 * row_for ends bar.start)

-- the bar and its texts take their sub-row
abbrev pub placed_ends : View → List Record → Op → Request → List ℕ → Option Bar → List ℕ
placed_ends v rs op q ends None = ends
placed_ends v rs op q ends (Some bar) = with_bar ends (row_for ends bar.start) (taken bar (count_of (said_of v rs op q)))

-- ---- the rows of requesters

-- what is known of request k of requester i, which was submitted at n
abbrev pub request_of : ℕ → (ℕ → Option ℕ) → (ℕ → Option ℕ) → ℕ → ℕ → Request
request_of i acted answer k n = record { requester = i; number = k; n = n; acted = acted k; answer = answer k }

-- the bar of a record of requester i, where it is a submission
abbrev pub record_shapes : View → List Record → (ℕ → Option ℕ) → (ℕ → Option ℕ) → ℕ → ℕ → List ℕ → Record → List Shape
record_shapes v rs acted answer i top ends (records.Ans j k reply n) = []
record_shapes v rs acted answer i top ends (records.Sub j k op n) =
    if j == i then placed_shapes v rs op (request_of i acted answer k n) top ends (bar_for v rs op (request_of i acted answer k n)) else []

abbrev pub record_ends : View → List Record → (ℕ → Option ℕ) → (ℕ → Option ℕ) → ℕ → List ℕ → Record → List ℕ
record_ends v rs acted answer i ends (records.Ans j k reply n) = ends
record_ends v rs acted answer i ends (records.Sub j k op n) =
    if j == i then placed_ends v rs op (request_of i acted answer k n) ends (bar_for v rs op (request_of i acted answer k n)) else ends

-- the bars of requester i, in the order of submissions: each takes the first sub-row that is free
abbrev pub bars : View → List Record → (ℕ → Option ℕ) → (ℕ → Option ℕ) → ℕ → ℕ → List ℕ → List Record → List Shape
bars v rs acted answer i top ends [] = []
bars v rs acted answer i top ends (r ∷ more) =
    record_shapes v rs acted answer i top ends r ++ bars v rs acted answer i top (record_ends v rs acted answer i ends r) more

-- the ends of the sub-rows that they take
abbrev pub ends_of : View → List Record → (ℕ → Option ℕ) → (ℕ → Option ℕ) → ℕ → List ℕ → List Record → List ℕ
ends_of v rs acted answer i ends [] = ends
ends_of v rs acted answer i ends (r ∷ more) = ends_of v rs acted answer i (record_ends v rs acted answer i ends r) more

-- the requester's name, and a line below its bars
abbrev pub frame : ℕ → ℕ → ℕ → ℕ → List Shape
frame width i top height =
    Shape.Written (plain_label 10 (top + 18)) (requester_words i)
    ∷ ruled (record { left = 0; top = top + (height - 6); right = width; bottom = top + (height - 6); colour = colours.Grey; thickness = 1; dash = 0 }) (requester_words i)
    ∷ []

-- a requester of whom no bar is shown has no row
abbrev pub height_of : List ℕ → ℕ
height_of ends = if length ends == 0 then 0 else rows_height ends

abbrev pub frame_of : ℕ → ℕ → ℕ → List ℕ → List Shape
frame_of width i top ends = if length ends == 0 then [] else frame width i top (height_of ends)

abbrev pub row_ends : View → List Record → List Entry → ℕ → List ℕ
row_ends v rs h i = ends_of v rs (acted_in h i) (answer_in rs i) i [] rs

unfoldable pub row : View → ℕ → List Record → List Entry → ℕ → ℕ → List Shape
row v width rs h i top = bars v rs (acted_in h i) (answer_in rs i) i top [] rs ++ frame_of width i top (row_ends v rs h i)

unfoldable pub row_height : View → List Record → List Entry → ℕ → ℕ
row_height v rs h i = height_of (row_ends v rs h i)

abbrev pub rows : View → ℕ → List Record → List Entry → ℕ → List ℕ → List Shape
rows v width rs h top [] = []
rows v width rs h top (i ∷ is) = row v width rs h i top ++ rows v width rs h (top + row_height v rs h i) is

abbrev pub rows_bottom : View → List Record → List Entry → ℕ → List ℕ → ℕ
rows_bottom v rs h top [] = top
rows_bottom v rs h top (i ∷ is) = rows_bottom v rs h (top + row_height v rs h i) is

abbrev pub requesters : List ℕ
requesters = 1 ∷ 2 ∷ 3 ∷ 4 ∷ 5 ∷ 6 ∷ 7 ∷ []

-- where the rows of all requesters end
abbrev pub bottom_of : View → List Record → List Entry → ℕ
bottom_of v rs h = rows_bottom v rs h 130 requesters
