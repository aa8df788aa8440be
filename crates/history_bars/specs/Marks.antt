-- How marks look.
use Rattle.std.specs.Prelude.{ℕ, ◌∷◌, [], Bool, true, false, if◌then◌else◌, List}
use Rattle.svg_text.specs.declared.colour.Colour.{Colour}
use Rattle.svg_text.specs.declared.colour.Colour.TheVariants as colours
use Rattle.svg_text.specs.declared.shapes.Rule.{Rule}
use Rattle.svg_text.specs.declared.shapes.Label.{Label}
use Rattle.svg_text.specs.Shapes.{Shape}

-- a line with a title
abbrev pub ruled : Rule → List ℕ → Shape
ruled r words = Shape.Lined (r ∷ []) words

abbrev pub edge_of : Bool → Colour
edge_of flawed = if flawed then colours.Red else colours.Black

abbrev pub thickness_of : Bool → ℕ
thickness_of flawed = if flawed then 3 else 1

-- a text in letters of 12 pixels
abbrev pub label_at : ℕ → ℕ → Colour → Label
label_at x y colour = record { x = x; y = y; size = 12; colour = colour; is_centred = false }

abbrev pub plain_label : ℕ → ℕ → Label
plain_label x y = label_at x y colours.Black

abbrev pub centred_label : ℕ → ℕ → Colour → Label
centred_label x y colour = record { x = x; y = y; size = 12; colour = colour; is_centred = true }
