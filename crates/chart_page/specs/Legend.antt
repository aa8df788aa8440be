-- The legend: an entry for each kind, line and end that the rows show, in a fixed order, and none otherwise.
use Rattle.std.specs.Prelude.{ℕ, ◌+◌, ◌==◌, ◌||◌, Bool, true, false, if◌then◌else◌, List, [], ◌∷◌, ◌++◌, length, codes, Option, Some, None}
use Rattle.lane_core.specs.declared.packet.Fate.{Fate}
use Rattle.lane_core.specs.declared.packet.Fate.TheVariants as fates
use Rattle.svg_text.specs.declared.colour.Colour.TheVariants as colours
use Rattle.svg_text.specs.Shapes.{Shape}
use Rattle.chart_rows.specs.declared.row.Kind.{Kind}
use Rattle.chart_rows.specs.declared.row.Kind.TheVariants as requests
use Rattle.chart_rows.specs.declared.row.Deed.{Deed}
use Rattle.chart_rows.specs.declared.row.Row.{Row}
use Rattle.chart_rows.specs.declared.row.Open.{Open}
use Rattle.chart_rows.specs.Layout.{point, text_width}
use Rattle.chart_rows.specs.Words.{kind_name}
use Rattle.chart_marks.specs.declared.shapes.Pen.{Pen}
use Rattle.chart_marks.specs.declared.arrows.Stroke.{Stroke}
use Rattle.chart_marks.specs.declared.arrows.Stroke.TheVariants as lines
use Rattle.chart_marks.specs.Look as look
use Rattle.chart_marks.specs.Marks.{kind_shown, stroke_of, end_of as fate_of}
use Rattle.chart_page.specs.declared.legend.Sign.{Sign}
use Rattle.chart_page.specs.declared.legend.Sign.TheVariants as signs

-- ---- what is shown

abbrev pub is_kind : Kind → Option Kind → Bool
is_kind requests.Read (Some requests.Read) = true
is_kind requests.Write (Some requests.Write) = true
is_kind requests.Add (Some requests.Add) = true
is_kind requests.Swap (Some requests.Swap) = true
is_kind requests.Cas (Some requests.Cas) = true
is_kind _ _ = false

abbrev pub is_stroke : Stroke → Option Stroke → Bool
is_stroke lines.Packet (Some lines.Packet) = true
is_stroke lines.Duplicate (Some lines.Duplicate) = true
is_stroke lines.NotAccepted (Some lines.NotAccepted) = true
is_stroke lines.Dllp (Some lines.Dllp) = true
is_stroke _ _ = false

abbrev pub is_lost : Option Fate → Bool
is_lost (Some fates.Lost) = true
is_lost _ = false

abbrev pub is_failed : Option Fate → Bool
is_failed (Some fates.Failed) = true
is_failed _ = false

-- a row of this deed shows it: the colour of a kind (Marks.antt, `note`), or the line or the end of an arrow (`strokes`)
abbrev pub shows : Sign → Deed → Bool
shows (signs.Kind kind) deed = is_kind kind (kind_shown deed)
shows (signs.Stroke stroke) deed = is_stroke stroke (stroke_of deed)
shows signs.Open deed = false
shows signs.Lost deed = is_lost (fate_of deed)
shows signs.Failed deed = is_failed (fate_of deed)

abbrev pub is_in_rows : Sign → List Row → Bool
is_in_rows sign [] = false
is_in_rows sign (r ∷ rs) = shows sign r.deed || is_in_rows sign rs

-- something isn't seen to arrive
abbrev pub is_open : Sign → List Open → Bool
is_open signs.Open opens = if length opens == 0 then false else true
is_open _ opens = false

abbrev pub is_there : Sign → List Row → List Open → Bool
is_there sign rows opens = is_open sign opens || is_in_rows sign rows

-- ---- an entry

abbrev pub name_of : Sign → List ℕ
name_of (signs.Kind kind) = kind_name kind
name_of (signs.Stroke lines.Packet) = codes "packet"
name_of (signs.Stroke lines.Duplicate) = codes "duplicate"
name_of (signs.Stroke lines.NotAccepted) = codes "not accepted"
name_of (signs.Stroke lines.Dllp) = codes "DLLP"
name_of signs.Open = codes "not seen to arrive"
name_of signs.Lost = codes "lost"
name_of signs.Failed = codes "failed its check"

abbrev pub name_left : Sign → ℕ
name_left (signs.Kind kind) = 16
name_left (signs.Stroke stroke) = 36
name_left signs.Open = 36
name_left signs.Lost = 16
name_left signs.Failed = 16

abbrev pub width_of : Sign → ℕ
width_of sign = name_left sign + text_width (length (name_of sign)) + 20

abbrev pub colour : ℕ → Kind → Shape
colour x kind = look.square (point (x + 5) 36) (look.kind_colour kind) (kind_name kind)

abbrev pub line : ℕ → Pen → List ℕ → Shape
line x p name = look.line p (point x 36) (point (x + 30) 36) name

abbrev pub lost : ℕ → Shape
lost x = Shape.Lined (look.two (look.cross (point (x + 6) 36))) (codes "lost")

-- what it is for
abbrev pub shape : ℕ → Sign → Shape
shape x (signs.Kind kind) = colour x kind
shape x (signs.Stroke stroke) = line x (look.pen_of stroke) (name_of (signs.Stroke stroke))
shape x signs.Open = line x look.open_pen (name_of signs.Open)
shape x signs.Lost = lost x
shape x signs.Failed = look.failed (point (x + 5) 36)

abbrev pub entry : ℕ → Sign → List Shape
entry x sign = shape x sign ∷ Shape.Written (look.label_at (x + name_left sign) 40 colours.Black) (name_of sign) ∷ []

-- ---- entries, one after the other

-- an entry is there if the page shows what it is for, and then the next one begins behind it
abbrev pub entry_if : ℕ → Sign → List Row → List Open → List Shape
entry_if x sign rows opens = if is_there sign rows opens then entry x sign else []

abbrev pub next_to : ℕ → Sign → List Row → List Open → ℕ
next_to x sign rows opens = if is_there sign rows opens then x + width_of sign else x

abbrev pub entries : ℕ → List Sign → List Row → List Open → List Shape
entries x [] rows opens = []
entries x (s ∷ ss) rows opens = entry_if x s rows opens ++ entries (next_to x s rows opens) ss rows opens

abbrev pub end_of : ℕ → List Sign → List Row → List Open → ℕ
end_of x [] rows opens = x
end_of x (s ∷ ss) rows opens = end_of (next_to x s rows opens) ss rows opens

abbrev pub all_signs : List Sign
all_signs =
    signs.Kind requests.Read ∷ signs.Kind requests.Write ∷ signs.Kind requests.Add ∷ signs.Kind requests.Swap ∷ signs.Kind requests.Cas
    ∷ signs.Stroke lines.Packet ∷ signs.Stroke lines.Duplicate ∷ signs.Stroke lines.NotAccepted ∷ signs.Stroke lines.Dllp
    ∷ signs.Open ∷ signs.Lost ∷ signs.Failed ∷ []

abbrev pub legend : List Row → List Open → List Shape
legend rows opens = entries 10 all_signs rows opens

abbrev pub legend_end : List Row → List Open → ℕ
legend_end rows opens = end_of 10 all_signs rows opens
