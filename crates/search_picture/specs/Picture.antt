-- The shapes of a picture of a scene.
use Rattle.std.specs.Prelude.{ℕ, ◌+◌, ◌-◌, ◌*◌, ◌==◌, ◌&&◌, ◌||◌, nat_le, nat_lt, max, Bool, true, false, if◌then◌else◌, List, [], ◌∷◌, ◌++◌, length, take, codes, slice_get, Option, Some, None, is_some}
use Rattle.std.specs.List.{list_any}
use Rattle.std.specs.Fmt.{decimal}
use Rattle.svg_text.specs.declared.colour.Colour.{Colour}
use Rattle.svg_text.specs.declared.colour.Colour.TheVariants as colours
use Rattle.svg_text.specs.declared.shapes.Block.{Block}
use Rattle.svg_text.specs.declared.shapes.Rule.{Rule}
use Rattle.svg_text.specs.declared.shapes.Label.{Label}
use Rattle.svg_text.specs.Shapes.{Shape, page_text}
use Rattle.search_picture.specs.declared.scene.Role.{Role}
use Rattle.search_picture.specs.declared.scene.Role.TheVariants as roles
use Rattle.search_picture.specs.declared.scene.PictureRequest.{PictureRequest}
use Rattle.search_picture.specs.declared.scene.Arrow.{Arrow}
use Rattle.search_picture.specs.declared.scene.Line.{Line}
use Rattle.search_picture.specs.declared.scene.Scene.{Scene}
use Rattle.search_picture.specs.declared.arrows.End.{End}
use Rattle.search_picture.specs.declared.signs.Marks.{Marks}

-- ---- places and marks

abbrev pub x_at : ℕ → ℕ
x_at column = 120 + 72 * column

abbrev pub top_of : ℕ → ℕ
top_of row = 100 + 64 * row

abbrev pub label_at : ℕ → ℕ → Colour → Label
label_at x y colour = record { x = x; y = y; size = 12; colour = colour; is_centred = false }

abbrev pub middle_at : ℕ → ℕ → Colour → Label
middle_at x y colour = record { x = x; y = y; size = 12; colour = colour; is_centred = true }

-- white behind a text of so many characters
abbrev pub backing : ℕ → ℕ → ℕ → ℕ → Block
backing left top bottom count = record { left = left; top = top; right = left + 8 * count; bottom = bottom; fill = colours.White; edge = colours.White; thickness = 0; is_open = false }

abbrev pub grey_line : ℕ × ℕ → ℕ × ℕ → ℕ → Rule
grey_line from to dash = record { left = from.0; top = from.1; right = to.0; bottom = to.1; colour = colours.Grey; thickness = 1; dash = dash }

-- a line with a title
abbrev pub ruled : Rule → List ℕ → Shape
ruled r words = Shape.Lined (r ∷ []) words

abbrev pub fill_of : Role → Colour
fill_of roles.Last = colours.White
fill_of roles.Against = colours.SkyBlue
fill_of roles.Named = colours.Yellow
fill_of roles.Other = colours.White

abbrev pub edge_of : Role → Colour
edge_of roles.Last = colours.Red
edge_of roles.Against = colours.Black
edge_of roles.Named = colours.Black
edge_of roles.Other = colours.Black

abbrev pub thickness_of : Role → ℕ
thickness_of roles.Last = 3
thickness_of roles.Against = 1
thickness_of roles.Named = 1
thickness_of roles.Other = 1

-- ---- the heading

abbrev pub titles : List ℕ → List ℕ → List Shape
titles title note =
    Shape.Written (record { x = 10; y = 22; size = 16; colour = colours.Red; is_centred = false }) (take 80 title)
    ∷ Shape.Written (label_at 10 42 colours.Black) (take 110 note)
    ∷ Shape.Written (label_at 10 92 colours.Black) (codes "line")
    ∷ []

abbrev pub swatch : ℕ → Role → Bool → Block
swatch left role is_open = record { left = left; top = 52; right = left + 30; bottom = 66; fill = fill_of role; edge = edge_of role; thickness = thickness_of role; is_open = is_open }

abbrev pub sign : ℕ → Role → Bool → List ℕ → List Shape
sign left role is_open words = Shape.Filled (swatch left role is_open) words ∷ Shape.Written (label_at (left + 36) 64 colours.Black) words ∷ []

-- the place of a request in a history, as a sign
abbrev pub place_mark : ℕ → Block
place_mark left = record { left = left; top = 51; right = left + 16; bottom = 67; fill = colours.White; edge = colours.Black; thickness = 1; is_open = false }

abbrev pub place_sign : ℕ → List ℕ → List Shape
place_sign left words =
    Shape.Filled (place_mark left) words
    ∷ Shape.Written (middle_at (left + 8) 64 colours.Black) (codes "0")
    ∷ Shape.Written (label_at (left + 22) 64 colours.Black) words
    ∷ []

-- what arrows mean
abbrev pub arrow_sign : ℕ → List ℕ → List Shape
arrow_sign left words = Shape.Written (label_at left 64 colours.Red) words ∷ []

abbrev pub is_last : Role → Bool
is_last roles.Last = true
is_last roles.Against = false
is_last roles.Named = false
is_last roles.Other = false

abbrev pub is_against : Role → Bool
is_against roles.Last = false
is_against roles.Against = true
is_against roles.Named = false
is_against roles.Other = false

abbrev pub is_named : Role → Bool
is_named roles.Last = false
is_named roles.Against = false
is_named roles.Named = true
is_named roles.Other = false

abbrev pub is_drawn : List PictureRequest → Arrow → Bool
is_drawn rs a = is_some (slice_get rs a.from) && is_some (slice_get rs a.to)

-- what occurs among the requests and the arrows that are shown
abbrev pub marks_of : List PictureRequest → List Arrow → Marks
marks_of rs ps = record {
  last = list_any (λ r. is_last r.role) rs;
  against = list_any (λ r. is_against r.role) rs;
  named = list_any (λ r. is_named r.role) rs;
  opens = list_any (λ r. r.is_open) rs;
  places = list_any (λ r. is_some r.place) rs;
  arrows = list_any (is_drawn rs) ps;
}

-- with a request more
abbrev pub with_request : Marks → PictureRequest → Marks
with_request m r = record {
  last = m.last || is_last r.role;
  against = m.against || is_against r.role;
  named = m.named || is_named r.role;
  opens = m.opens || r.is_open;
  places = m.places || is_some r.place;
  arrows = m.arrows;
}

-- a sign, if what it stands for is there
abbrev pub only_if : Bool → List Shape → List Shape
only_if there shapes = if there then shapes else []

-- where the next sign stands, behind one of that width that may be there
abbrev pub behind : Bool → ℕ → ℕ → ℕ
behind there width left = if there then left + width else left

abbrev pub second_of : Marks → ℕ
second_of m = behind m.last 172 10

abbrev pub third_of : Marks → ℕ
third_of m = behind m.against 132 (second_of m)

abbrev pub fourth_of : Marks → ℕ
fourth_of m = behind m.named 140 (third_of m)

abbrev pub fifth_of : Marks → ℕ
fifth_of m = behind m.opens 236 (fourth_of m)

abbrev pub sixth_of : Marks → ℕ → ℕ
sixth_of m count = behind m.places (40 + 8 * count) (fifth_of m)

abbrev pub last_signs : Marks → List Shape
last_signs m = only_if m.last (sign 10 roles.Last false (codes "the last answer"))

abbrev pub against_signs : Marks → List Shape
against_signs m = only_if m.against (sign (second_of m) roles.Against false (codes "against it"))

abbrev pub named_signs : Marks → List Shape
named_signs m = only_if m.named (sign (third_of m) roles.Named false (codes "named below"))

abbrev pub open_signs : Marks → List Shape
open_signs m = only_if m.opens (sign (fourth_of m) roles.Other true (codes "posted, or not answered"))

abbrev pub places_signs : Marks → List ℕ → List Shape
places_signs m words = only_if m.places (place_sign (fifth_of m) words)

abbrev pub arrows_signs : Marks → ℕ → List Shape
arrows_signs m left = only_if m.arrows (arrow_sign left (codes "an arrow leads to what acts later"))

-- what is there of the bars, the numbers on them and the arrows, in this order, and what it means
abbrev pub signs : Marks → List ℕ → List Shape
signs m words =
    last_signs m ++ (against_signs m ++ (named_signs m ++ (open_signs m ++ (places_signs m (take 80 words) ++ arrows_signs m (sixth_of m (length (take 80 words)))))))

-- how far they reach
abbrev pub signs_end : Marks → ℕ → ℕ
signs_end m count = sixth_of m count + (if m.arrows then 280 else 10)

-- ---- the columns and the names of requesters

abbrev pub column_shapes : ℕ → ℕ → ℕ → List Shape
column_shapes column line bottom =
    Shape.Written (middle_at (x_at column) 92 colours.Grey) (decimal line)
    ∷ ruled (grey_line (x_at column, 98) (x_at column, bottom) 2) (decimal line)
    ∷ []

abbrev pub columns : ℕ → ℕ → List ℕ → List Shape
columns bottom column [] = []
columns bottom column (line ∷ lines) = column_shapes column line bottom ++ columns bottom (column + 1) lines

abbrev pub requester_words : ℕ → List ℕ
requester_words requester = codes "requester " ++ decimal requester

abbrev pub frame : ℕ → ℕ → ℕ → List Shape
frame width row requester =
    ruled (grey_line (0, top_of row) (width, top_of row) 0) (requester_words requester)
    ∷ Shape.Written (label_at 10 (top_of row + 30) colours.Black) (requester_words requester)
    ∷ []

-- the row before is of the same requester
abbrev pub is_same : Option ℕ → ℕ → Bool
is_same None requester = false
is_same (Some other) requester = other == requester

abbrev pub frame_behind : ℕ → Option ℕ → ℕ → ℕ → List Shape
frame_behind width before row requester = if is_same before requester then [] else frame width row requester

abbrev pub frames : ℕ → Option ℕ → ℕ → List PictureRequest → List Shape
frames width before row [] = []
frames width before row (r ∷ rs) = frame_behind width before row r.requester ++ frames width (Some r.requester) (row + 1) rs

-- ---- the bars

abbrev pub bar_block : ℕ → PictureRequest → Block
bar_block top r = record {
  left = x_at r.from + 1;
  top = top + 16;
  right = x_at r.to - 1;
  bottom = top + 52;
  fill = fill_of r.role;
  edge = edge_of r.role;
  thickness = thickness_of r.role;
  is_open = r.is_open;
}

-- how many characters the longer one of its texts has, as far as it is shown
abbrev pub count_of : PictureRequest → ℕ
count_of r = max (length (take 48 r.asked.items)) (length (take 48 r.answered.items))

-- where its texts stand: in the bar, if there is room for them, and else to its right
abbrev pub text_x : PictureRequest → ℕ
text_x r = if nat_le (x_at r.from + 36 + 8 * count_of r) (x_at r.to) then x_at r.from + 32 else x_at r.to + 8

-- a bar, above white where its texts stand
abbrev pub bar_shapes : ℕ → PictureRequest → List Shape
bar_shapes top r =
    Shape.Filled (backing (text_x r) (top + 16) (top + 52) (count_of r)) []
    ∷ Shape.Filled (bar_block top r) r.title.items
    ∷ []

-- what was asked and answered
abbrev pub text_shapes : ℕ → PictureRequest → List Shape
text_shapes top r =
    Shape.Written (label_at (text_x r) (top + 31) colours.Black) (take 48 r.asked.items)
    ∷ Shape.Written (label_at (text_x r) (top + 46) (edge_of r.role)) (take 48 r.answered.items)
    ∷ []

abbrev pub place_block : ℕ → ℕ → Block
place_block x top = record { left = x + 5; top = top + 22; right = x + 27; bottom = top + 46; fill = colours.White; edge = colours.Black; thickness = 1; is_open = false }

-- the place in the history
abbrev pub place_shapes : Option ℕ → ℕ → ℕ → List Shape
place_shapes None x top = []
place_shapes (Some place) x top =
    Shape.Filled (place_block x top) (decimal place) ∷ Shape.Written (middle_at (x + 16) (top + 38) colours.Black) (decimal place) ∷ []

abbrev pub request_shapes : ℕ → PictureRequest → List Shape
request_shapes row r = bar_shapes (top_of row) r ++ (text_shapes (top_of row) r ++ place_shapes r.place (x_at r.from) (top_of row))

-- requests, each in a row
abbrev pub rows : ℕ → List PictureRequest → List Shape
rows row [] = []
rows row (r ∷ rs) = request_shapes row r ++ rows (row + 1) rs

-- ---- the arrows

abbrev pub leg : ℕ × ℕ → ℕ × ℕ → Rule
leg from to = record { left = from.0; top = from.1; right = to.0; bottom = to.1; colour = colours.Red; thickness = 2; dash = 0 }

abbrev pub end_at : ℕ → PictureRequest → End
end_at row r = record { x = x_at r.from; top = top_of row }

-- from the lower edge of a bar to the upper edge of one below it
abbrev pub down : End → End → List ℕ → List Shape
down from to why =
    Shape.Lined (
    leg (from.x + 20, from.top + 52) (from.x + 20, to.top - 7)
    ∷ leg (from.x + 20, to.top - 7) (to.x + 8, to.top - 7)
    ∷ leg (to.x + 8, to.top - 7) (to.x + 8, to.top + 16)
    ∷ leg (to.x + 8 - 4, to.top + 16 - 8) (to.x + 8, to.top + 16)
    ∷ leg (to.x + 8 + 4, to.top + 16 - 8) (to.x + 8, to.top + 16)
    ∷ []
    ) why
    ∷ []

-- from the upper edge of a bar to the lower edge of one above it
abbrev pub up : End → End → List ℕ → List Shape
up from to why =
    Shape.Lined (
    leg (from.x + 20, from.top + 16) (from.x + 20, from.top - 2)
    ∷ leg (from.x + 20, from.top - 2) (to.x + 8, from.top - 2)
    ∷ leg (to.x + 8, from.top - 2) (to.x + 8, to.top + 52)
    ∷ leg (to.x + 8 - 4, to.top + 52 + 8) (to.x + 8, to.top + 52)
    ∷ leg (to.x + 8 + 4, to.top + 52 + 8) (to.x + 8, to.top + 52)
    ∷ []
    ) why
    ∷ []

abbrev pub between : ℕ → Option PictureRequest → ℕ → Option PictureRequest → List ℕ → List Shape
between i (Some r) j (Some s) why = if nat_lt i j then down (end_at i r) (end_at j s) why else up (end_at i r) (end_at j s) why
between i (Some r) j None why = []
between i None j s why = []

-- an arrow, if both of its requests are shown
abbrev pub arrow_shapes : List PictureRequest → Arrow → List Shape
arrow_shapes rs a = between a.from (slice_get rs a.from) a.to (slice_get rs a.to) a.why.items

abbrev pub arrows : List PictureRequest → List Arrow → List Shape
arrows rs [] = []
arrows rs (a ∷ more) = arrow_shapes rs a ++ arrows rs more

-- why an arrow is there, above the bar that it leads to
abbrev pub why_at : End → List ℕ → List Shape
why_at e why =
    Shape.Filled (backing (e.x + 30) (e.top + 1) (e.top + 15) (length (take 44 why))) []
    ∷ Shape.Written (label_at (e.x + 30) (e.top + 12) colours.Red) (take 44 why)
    ∷ []

abbrev pub why_for : ℕ → Option PictureRequest → List ℕ → List Shape
why_for j None why = []
why_for j (Some r) why = why_at (end_at j r) why

abbrev pub why_shapes : List PictureRequest → Arrow → List Shape
why_shapes rs a = why_for a.to (slice_get rs a.to) a.why.items

abbrev pub whys : List PictureRequest → List Arrow → List Shape
whys rs [] = []
whys rs (a ∷ more) = why_shapes rs a ++ whys rs more

-- ---- the lines below the rows

abbrev pub line_shapes : ℕ → Line → List Shape
line_shapes y line = Shape.Written (label_at 10 y colours.Black) (take 110 line.text.items) ∷ []

abbrev pub told : ℕ → List Line → List Shape
told y [] = []
told y (line ∷ lines) = line_shapes y line ++ told (y + 16) lines

-- ---- the whole picture

abbrev pub columns_of : Scene → List ℕ
columns_of s = take 40 s.columns.items

abbrev pub requests_of : Scene → List PictureRequest
requests_of s = take 20 s.requests.items

abbrev pub arrows_of : Scene → List Arrow
arrows_of s = take 20 s.arrows.items

abbrev pub lines_of : Scene → List Line
lines_of s = take 40 s.lines.items

abbrev pub width_of : List ℕ → ℕ
width_of lines = max (x_at (length lines) + 400) 840

-- at least as wide as the signs
abbrev pub page_width : List ℕ → Marks → ℕ → ℕ
page_width lines m count = max (width_of lines) (signs_end m count)

abbrev pub bottom_of : List PictureRequest → ℕ
bottom_of rs = top_of (length rs)

-- what lies below the bars
abbrev pub ground : List ℕ → List PictureRequest → List Arrow → List Shape
ground cs rs ps = columns (bottom_of rs) 0 cs ++ (frames (width_of cs) None 0 rs ++ arrows rs ps)

-- the bars, and what stands beside and below them
abbrev pub bars : List PictureRequest → List Arrow → List Line → List Shape
bars rs ps ls = rows 0 rs ++ (whys rs ps ++ told (bottom_of rs + 24) ls)

abbrev pub shapes_of : List ℕ → List ℕ → List ℕ → List ℕ → List PictureRequest → List Arrow → List Line → List Shape
shapes_of title note places cs rs ps ls = titles title note ++ (signs (marks_of rs ps) places ++ (ground cs rs ps ++ bars rs ps ls))

abbrev pub height_of : List PictureRequest → List Line → ℕ
height_of rs ls = bottom_of rs + 16 * length ls + 30

-- all shapes of a scene
abbrev pub drawn : Scene → List Shape
drawn s = shapes_of s.title.items s.note.items s.places.items (columns_of s) (requests_of s) (arrows_of s) (lines_of s)

-- the text of its picture
abbrev pub scene_text : Scene → List ℕ
scene_text s =
    page_text (page_width (columns_of s) (marks_of (requests_of s) (arrows_of s)) (length (take 80 s.places.items))) (height_of (requests_of s) (lines_of s)) (drawn s)
