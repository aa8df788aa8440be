-- The shapes of a picture in SVG, each an element.
use Rattle.std.specs.Prelude.{ℕ, ◌-◌, Bool, true, false, if◌then◌else◌, List, [], ◌∷◌, ◌++◌, codes, flat_map}
use Rattle.svg_text.specs.declared.colour.Colour.{Colour}
use Rattle.svg_text.specs.declared.colour.Colour.TheVariants as colours
use Rattle.svg_text.specs.declared.shapes.Block.{Block}
use Rattle.svg_text.specs.declared.shapes.Dot.{Dot}
use Rattle.svg_text.specs.declared.shapes.Rule.{Rule}
use Rattle.svg_text.specs.declared.shapes.Label.{Label}
use Rattle.svg_text.specs.Xml.{Attribute, Value, Content, text_of}

-- a mark on the page: a block, a dot or lines with a title, or a text
pub data Shape : Type 0 where
  Filled : Block → List ℕ → Shape
  Dotted : Dot → List ℕ → Shape
  Lined : List Rule → List ℕ → Shape
  Written : Label → List ℕ → Shape

abbrev pub colour_code : Colour → List ℕ
colour_code colours.Black = codes "#000000"
colour_code colours.Grey = codes "#767676"
colour_code colours.White = codes "#FFFFFF"
colour_code colours.Red = codes "#C00000"
colour_code colours.Orange = codes "#E69F00"
colour_code colours.SkyBlue = codes "#56B4E9"
colour_code colours.Green = codes "#009E73"
colour_code colours.Yellow = codes "#F0E442"
colour_code colours.Purple = codes "#CC79A7"

-- ---- attributes

abbrev pub number : List ℕ → ℕ → Attribute
number name n = record { name = name; value = Value.Number n }

abbrev pub numbers : List ℕ → List ℕ → Attribute
numbers name ns = record { name = name; value = Value.Numbers ns }

abbrev pub words : List ℕ → List ℕ → Attribute
words name text = record { name = name; value = Value.Words text }

-- one points at what lies below a text
abbrev pub unseen : Attribute
unseen = words (codes "pointer-events") (codes "none")

-- a block's colour and its edge
abbrev pub painted : Block → List Attribute
painted b = words (codes "fill") (colour_code b.fill) ∷ words (codes "stroke") (colour_code b.edge) ∷ number (codes "stroke-width") b.thickness ∷ []

abbrev pub rectangle : Block → List Attribute
rectangle b = number (codes "x") b.left ∷ number (codes "y") b.top ∷ number (codes "width") (b.right - b.left) ∷ number (codes "height") (b.bottom - b.top) ∷ painted b

-- from the upper right corner to the lower right one
abbrev pub corners : Block → Attribute
corners b = numbers (codes "points") (b.right ∷ b.top ∷ b.left ∷ b.top ∷ b.left ∷ b.bottom ∷ b.right ∷ b.bottom ∷ [])

-- no edge at the right
abbrev pub three_edges : Block → List Attribute
three_edges b = corners b ∷ painted b

abbrev pub circle : Dot → List Attribute
circle d = number (codes "cx") d.x ∷ number (codes "cy") d.y ∷ number (codes "r") 4 ∷ words (codes "stroke") (codes "#FFFFFF") ∷ []

abbrev pub line : Rule → List Attribute
line r =
    number (codes "x1") r.left ∷ number (codes "y1") r.top ∷ number (codes "x2") r.right ∷ number (codes "y2") r.bottom
    ∷ words (codes "stroke") (colour_code r.colour) ∷ number (codes "stroke-width") r.thickness ∷ number (codes "stroke-dasharray") r.dash ∷ []

abbrev pub anchor : Bool → List ℕ
anchor is_centred = if is_centred then codes "middle" else codes "start"

abbrev pub placed : Label → List Attribute
placed l =
    number (codes "x") l.x ∷ number (codes "y") l.y ∷ number (codes "font-size") l.size
    ∷ words (codes "fill") (colour_code l.colour) ∷ words (codes "text-anchor") (anchor l.is_centred) ∷ unseen ∷ []

-- ---- elements

-- the title of the element around it: it is read out by readers of screens, and shown where one points at the element
abbrev pub titled : List ℕ → Content → Content
titled text rest = Content.Element (codes "title") [] (Content.Characters text Content.Nothing) rest

abbrev pub block_before : Bool → Block → List ℕ → Content → Content
block_before true b text rest = Content.Element (codes "polyline") (three_edges b) (titled text Content.Nothing) rest
block_before false b text rest = Content.Element (codes "rect") (rectangle b) (titled text Content.Nothing) rest

abbrev pub lines : List Rule → Content
lines [] = Content.Nothing
lines (r ∷ rs) = Content.Element (codes "line") (line r) Content.Nothing (lines rs)

-- the shape, and then the rest; lines are a group with one title
abbrev pub before : Shape → Content → Content
before (Shape.Filled b text) rest = block_before b.is_open b text rest
before (Shape.Dotted d text) rest = Content.Element (codes "circle") (circle d) (titled text Content.Nothing) rest
before (Shape.Lined rs text) rest = Content.Element (codes "g") [] (titled text (lines rs)) rest
before (Shape.Written l text) rest = Content.Element (codes "text") (placed l) (Content.Characters text Content.Nothing) rest

abbrev pub contents : List Shape → Content
contents [] = Content.Nothing
contents (s ∷ ss) = before s (contents ss)

unfoldable pub shape_text : Shape → List ℕ
shape_text s = text_of (before s Content.Nothing)

-- the shapes, one after the other
unfoldable pub shapes_text : List Shape → List ℕ
shapes_text ss = flat_map shape_text ss

-- ---- what is read out

abbrev pub words_of : Shape → List ℕ
words_of (Shape.Filled b text) = text
words_of (Shape.Dotted d text) = text
words_of (Shape.Lined rs text) = text
words_of (Shape.Written l text) = text

-- an element stands first that has the text as its title, or is the text
pub data IsReadOut (text : List ℕ) : Content → Type 0 where
  titled_so : {name : List ℕ} {attributes : List Attribute} {inner rest : Content} → IsReadOut text (Content.Element name attributes (titled text inner) rest)
  written_so : {attributes : List Attribute} {rest : Content} → IsReadOut text (Content.Element (codes "text") attributes (Content.Characters text Content.Nothing) rest)

-- ---- the page

-- what part of the plane is shown
abbrev pub view : ℕ → ℕ → Attribute
view width height = numbers (codes "viewBox") (0 ∷ 0 ∷ width ∷ height ∷ [])

abbrev pub page_attributes : ℕ → ℕ → List Attribute
page_attributes width height =
    words (codes "xmlns") (codes "http://www.w3.org/2000/svg") ∷ number (codes "width") width ∷ number (codes "height") height
    ∷ view width height ∷ words (codes "font-family") (codes "monospace") ∷ []

-- white, with the shapes above that
abbrev pub page_background : ℕ → ℕ → Block
page_background width height = record { left = 0; top = 0; right = width; bottom = height; fill = colours.White; edge = colours.White; thickness = 0; is_open = false }

-- a whole page of that width and height, in pixels
abbrev pub page : ℕ → ℕ → List Shape → Content
page width height shapes =
    Content.Element (codes "svg") (page_attributes width height) (contents (Shape.Filled (page_background width height) [] ∷ shapes)) Content.Nothing

unfoldable pub page_text : ℕ → ℕ → List Shape → List ℕ
page_text width height shapes = text_of (page width height shapes) ++ 10 ∷ []
