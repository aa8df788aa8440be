-- The legend: of the kinds of operations, the dots and the open bars those that occur.
use Rattle.std.specs.Prelude.{ℕ, ◌+◌, Bool, true, false, if◌then◌else◌, List, [], ◌∷◌, ◌++◌, codes}
use Rattle.svg_text.specs.declared.colour.Colour.{Colour}
use Rattle.svg_text.specs.declared.colour.Colour.TheVariants as colours
use Rattle.svg_text.specs.declared.shapes.Block.{Block}
use Rattle.svg_text.specs.Shapes.{Shape}
use Rattle.history_bars.specs.declared.signs.Signs.{Signs}
use Rattle.history_bars.specs.Marks.{plain_label}

abbrev pub swatch_block : ℕ → ℕ → Colour → Bool → Block
swatch_block left right colour is_open = record {
  left = left;
  top = 52;
  right = right;
  bottom = 66;
  fill = colour;
  edge = colours.Black;
  thickness = 1;
  is_open = is_open;
}

-- a small bar and what it means
abbrev pub swatch : Block → List ℕ → List Shape
swatch block name = Shape.Filled block name ∷ Shape.Written (plain_label (block.right + 6) 64) name ∷ []

abbrev pub dot_sign : ℕ → List Shape
dot_sign left = Shape.Dotted (record { x = left + 4; y = 59 }) (codes "acted") ∷ Shape.Written (plain_label (left + 14) 64) (codes "acted") ∷ []

-- a sign, if what it stands for is there
abbrev pub only_if : Bool → List Shape → List Shape
only_if there shapes = if there then shapes else []

-- the colour of a kind of operations
abbrev pub kind_sign : Bool → ℕ → Colour → List ℕ → List Shape
kind_sign there left colour name = only_if there (swatch (swatch_block left (left + 14) colour false) name)

-- a dot
abbrev pub dots_sign : Bool → ℕ → List Shape
dots_sign there left = only_if there (dot_sign left)

-- an open bar
abbrev pub opens_sign : Bool → ℕ → List Shape
opens_sign there left = only_if there (swatch (swatch_block left (left + 30) colours.White true) (codes "posted, or no answer"))

-- where the next sign stands, behind one of that width that may be there
abbrev pub behind : Bool → ℕ → ℕ → ℕ
behind there width left = if there then left + width else left

abbrev pub second : Signs → ℕ
second s = behind s.reads 70 10

abbrev pub third : Signs → ℕ
third s = behind s.writes 76 (second s)

abbrev pub fourth : Signs → ℕ
fourth s = behind s.adds 60 (third s)

abbrev pub fifth : Signs → ℕ
fifth s = behind s.swaps 70 (fourth s)

abbrev pub sixth : Signs → ℕ
sixth s = behind s.cas 64 (fifth s)

abbrev pub seventh : Signs → ℕ
seventh s = behind s.dots 76 (sixth s)

abbrev pub kinds : Signs → List Shape
kinds s =
    kind_sign s.reads 10 colours.SkyBlue (codes "read") ++ (kind_sign s.writes (second s) colours.Orange (codes "write")
    ++ (kind_sign s.adds (third s) colours.Green (codes "add") ++ (kind_sign s.swaps (fourth s) colours.Yellow (codes "swap")
    ++ kind_sign s.cas (fifth s) colours.Purple (codes "cas"))))

-- what occurs, in this order, and what it means
abbrev pub legend : Signs → List Shape
legend s = kinds s ++ (dots_sign s.dots (sixth s) ++ opens_sign s.opens (seventh s))
