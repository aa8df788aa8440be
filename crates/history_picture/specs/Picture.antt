-- The shapes of a picture.
use Rattle.std.specs.Prelude.{ℕ, ◌+◌, ◌-◌, nat_le, nat_lt, ◌&&◌, max, Bool, true, false, if◌then◌else◌, List, [], ◌∷◌, ◌++◌, length, take, drop, codes, slice_get, Option, Some, None, option_map, is_some}
use Rattle.std.specs.Fmt.{decimal}
use Rattle.seq_memory.specs.Entries.{Entry, Reply}
use Rattle.history_words.specs.Records.{Record}
use Rattle.history_words.specs.declared.flaws.Flaw.{Flaw}
use Rattle.history_words.specs.Claim.{Claim}
use Rattle.history_words.specs.Names.{name_of}
use Rattle.flaw_places.specs.Places.{is_of_entry, flawed_request, expected_reply}
use Rattle.svg_text.specs.declared.colour.Colour.TheVariants as colours
use Rattle.svg_text.specs.declared.shapes.Block.{Block}
use Rattle.svg_text.specs.declared.shapes.Label.{Label}
use Rattle.svg_text.specs.Shapes.{Shape, page_text}
use Rattle.history_bars.specs.declared.scale.Scale.{Scale}
use Rattle.history_bars.specs.declared.marks.View.{View}
use Rattle.history_bars.specs.declared.signs.Signs.{Signs}
use Rattle.history_bars.specs.Layout.{x_at}
use Rattle.history_bars.specs.Words.{kind_colour, pair_words, point_words, entry_words, moment_of}
use Rattle.history_bars.specs.Marks.{ruled, edge_of, thickness_of, plain_label, centred_label}
use Rattle.history_bars.specs.Said.{is_flawed}
use Rattle.history_bars.specs.Signs.{signs_of}
use Rattle.history_bars.specs.Bars.{rows, requesters, bottom_of}
use Rattle.history_picture.specs.declared.scale.Window.{Window}
use Rattle.history_picture.specs.declared.flaws.Finding.{Finding}
use Rattle.history_picture.specs.Points.{scale_of, is_cut, flaw_point}
use Rattle.history_picture.specs.Legend.{legend}
use Rattle.history_picture.specs.Notes.{verdict_words, window_words, note_shapes}

-- ---- the history

-- the point at an offset, and a line down from it
abbrev pub tick : ℕ → ℕ → ℕ → List Shape
tick from offset bottom =
    Shape.Written (centred_label (x_at offset) 88 colours.Grey) (decimal (from + offset))
    ∷ ruled (record { left = x_at offset; top = 93; right = x_at offset; bottom = bottom; colour = colours.Grey; thickness = 1; dash = 2 }) (point_words (from + offset))
    ∷ []

abbrev pub entry_block : View → ℕ → Entry → Block
entry_block v offset e = record {
  left = x_at offset + 1;
  top = 94;
  right = x_at offset + 95;
  bottom = 116;
  fill = kind_colour e.op;
  edge = edge_of (is_flawed v.flawed e.requester e.number);
  thickness = thickness_of (is_flawed v.flawed e.requester e.number);
  is_open = false;
}

abbrev pub entry_shapes : View → ℕ → Entry → List Shape
entry_shapes v offset e =
    Shape.Filled (entry_block v offset e) (entry_words (v.scale.from + offset) e.requester e.number e.op)
    ∷ Shape.Written (centred_label (x_at offset + 48) 109 colours.Black) (pair_words e.requester e.number)
    ∷ []

-- the entries, from an offset on, each after its point
abbrev pub entries : View → ℕ → ℕ → List Entry → List Shape
entries v bottom offset [] = tick v.scale.from offset bottom
entries v bottom offset (e ∷ es) = (tick v.scale.from offset bottom ++ entry_shapes v offset e) ++ entries v bottom (offset + 1) es

abbrev pub shown_entries : Scale → List Entry → List Entry
shown_entries s h = take s.span (drop s.from h)

-- ---- the first flaw

-- where it is marked: at the entry, or at the length that the history had at the record
abbrev pub entry_mark : Scale → ℕ → Option ℕ
entry_mark s p = if nat_le s.from p && nat_lt (p - s.from) s.span then Some (x_at (p - s.from) + 48) else None

abbrev pub record_mark : Scale → Option ℕ → Option ℕ
record_mark s None = None
record_mark s (Some n) = if nat_le s.from n && nat_le (n - s.from) s.span then Some (x_at (n - s.from)) else None

abbrev pub mark_of : Scale → List Record → Flaw → Option ℕ
mark_of s rs f = if is_of_entry f.kind then entry_mark s f.place else record_mark s (moment_of (slice_get rs f.place))

abbrev pub mark_at : Option ℕ → List ℕ → ℕ → List Shape
mark_at None name bottom = []
mark_at (Some x) name bottom =
    ruled (record { left = x; top = 92; right = x; bottom = bottom + 4; colour = colours.Red; thickness = 2; dash = 0 }) name
    ∷ Shape.Written (centred_label x (bottom + 18) colours.Red) name
    ∷ []

abbrev pub mark_shapes : Scale → List Record → Option Flaw → ℕ → List Shape
mark_shapes s rs None bottom = []
mark_shapes s rs (Some f) bottom = mark_at (mark_of s rs f) (name_of f.kind) bottom

-- ---- the heading

-- a line in letters of 16 pixels
abbrev pub title_label : Bool → Label
title_label flawed = record { x = 10; y = 22; size = 16; colour = edge_of flawed; is_centred = false }

abbrev pub has_flaw : Option Finding → Bool
has_flaw None = false
has_flaw (Some f) = true

abbrev pub captions : View → ℕ → Option Finding → List Shape
captions v count f =
    Shape.Written (title_label (has_flaw f)) (verdict_words f)
    ∷ Shape.Written (plain_label 420 22) (window_words v count)
    ∷ Shape.Written (plain_label 10 88) (codes "points")
    ∷ Shape.Written (plain_label 10 109) (codes "history")
    ∷ []

-- ---- the whole picture

abbrev pub flaw_of : Option Finding → Option Flaw
flaw_of f = option_map (λ f. f.flaw) f

abbrev pub expected_in : Claim → Option Flaw → Option Reply
expected_in c None = None
expected_in c (Some f) = expected_reply c f

abbrev pub view_of : Window → Claim → Option Flaw → View
view_of w c flaw = record {
  scale = scale_of w (flaw_point c.records flaw) (length c.memory.entries);
  is_cut = is_cut w (length c.memory.entries);
  flawed = flawed_request c.records c.memory.entries flaw;
  expected = expected_in c flaw;
}

-- texts may stand behind the last bar
abbrev pub width_of : View → ℕ
width_of v = max (x_at (v.scale.span + 1) + (if is_some v.expected then 660 else 404)) 840

-- the shapes below the heading: the history, the rows above its lines, and the mark above both
abbrev pub body : View → List Record → List Entry → Option Finding → List Shape
body v rs h f =
    entries v (bottom_of v rs h) 0 (shown_entries v.scale h)
    ++ (rows v (width_of v) rs h 130 requesters ++ mark_shapes v.scale rs (flaw_of f) (bottom_of v rs h))

-- what stands above the picture
abbrev pub heading : View → List Record → List Entry → Option Finding → Signs → List Shape
heading v rs h f signs = captions v (length h) f ++ (note_shapes v rs f ++ legend signs)

-- the legend has a sign if, and only if, the shapes below it have what it stands for
abbrev pub drawn : View → List Record → List Entry → Option Finding → List Shape
drawn v rs h f = heading v rs h f (signs_of (body v rs h f)) ++ body v rs h f

abbrev pub height_of : View → List Record → List Entry → ℕ
height_of v rs h = bottom_of v rs h + 30

abbrev pub view_text : View → List Record → List Entry → Option Finding → List ℕ
view_text v rs h f = page_text (width_of v) (height_of v rs h) (drawn v rs h f)

-- the text of the picture of a window of a trace and its history, of which this is the first flaw
unfoldable pub picture_text : Window → Claim → Option Finding → List ℕ
picture_text w c f = view_text (view_of w c (flaw_of f)) c.records c.memory.entries f

abbrev pub title : List ℕ → List Shape
title words = Shape.Written (title_label true) words ∷ []

-- the text of a picture that has one line of words
abbrev pub line_text : List ℕ → List ℕ
line_text words = page_text 640 40 (title words)
