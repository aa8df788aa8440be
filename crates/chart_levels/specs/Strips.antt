-- What is drawn of a step line, pixel by pixel: its value at each row goes down from the top of the row, and stands beside
-- it as a number where it is another than in the row before.
use Rattle.std.specs.Prelude.{ℕ, zero, suc, ◌+◌, ◌-◌, ◌*◌, ◌/◌, min, max, false, List, [], ◌∷◌, ◌++◌, codes, Option, Some, None}
use Rattle.std.specs.Fmt.{decimal}
use Rattle.dllp_core.specs.declared.packet.Class.TheVariants as classes
use Rattle.script_text.specs.LineTexts.{lane_text}
use Rattle.svg_text.specs.declared.colour.Colour.{Colour}
use Rattle.svg_text.specs.declared.colour.Colour.TheVariants as colours
use Rattle.svg_text.specs.declared.shapes.Rule.{Rule}
use Rattle.svg_text.specs.declared.shapes.Label.{Label}
use Rattle.svg_text.specs.declared.shapes.Block.{Block}
use Rattle.svg_text.specs.Shapes.{Shape}
use Rattle.chart_rows.specs.Layout.{top_of, text_line}
use Rattle.chart_rows.specs.Titles.{on_words}
use Rattle.chart_levels.specs.declared.level.Level.{Level}
use Rattle.chart_levels.specs.declared.level.Level.TheVariants as levels
use Rattle.chart_levels.specs.declared.step_line.Step.{Step}
use Rattle.chart_levels.specs.declared.drawing.Strip.{Strip}

-- ---- words

-- the name above a step line: of credits, that of the standard
abbrev pub level_name : Level → List ℕ
level_name levels.Queue = codes "queue"
level_name levels.ReplayBuffer = codes "replay"
level_name (levels.Headers classes.Posted) = codes "PH"
level_name (levels.Headers classes.NonPosted) = codes "NPH"
level_name (levels.Headers classes.Completion) = codes "CPLH"
level_name (levels.Data classes.Posted) = codes "PD"
level_name (levels.Data classes.NonPosted) = codes "NPD"
level_name (levels.Data classes.Completion) = codes "CPLD"

abbrev pub level_words : Level → List ℕ
level_words levels.Queue = codes "packets in the queue"
level_words levels.ReplayBuffer = codes "packets in the replay buffer"
level_words (levels.Headers classes.Posted) = codes "PH credits left"
level_words (levels.Headers classes.NonPosted) = codes "NPH credits left"
level_words (levels.Headers classes.Completion) = codes "CPLH credits left"
level_words (levels.Data classes.Posted) = codes "PD credits left"
level_words (levels.Data classes.NonPosted) = codes "NPD credits left"
level_words (levels.Data classes.Completion) = codes "CPLD credits left"

-- credits are infinite where they have no number
abbrev pub value_words : Option ℕ → List ℕ
value_words None = codes "inf"
value_words (Some value) = decimal value

abbrev pub strip_words : Strip → List ℕ
strip_words t = level_words t.level ++ on_words t.lane

-- the title of a step
abbrev pub step_words : Strip → Option ℕ → List ℕ
step_words t value = strip_words t ++ (codes ": " ++ value_words value)

-- ---- steps

-- 24 pixels stand for the greatest value
abbrev pub share_of : ℕ → ℕ → ℕ
share_of value greatest = min (value * 24 / max greatest 1) 24

abbrev pub value_x : Strip → Option ℕ → ℕ
value_x t None = t.left + 24
value_x t (Some value) = t.left + share_of value t.greatest

abbrev pub line : ℕ → ℕ → ℕ → ℕ → Rule
line left top right bottom = record { left = left; top = top; right = right; bottom = bottom; colour = colours.Black; thickness = 2; dash = 0 }

-- a thin grey line where 0 is
abbrev pub axis : Strip → Rule
axis t = record { left = t.left; top = 92; right = t.left; bottom = t.bottom; colour = colours.Grey; thickness = 1; dash = 0 }

abbrev pub axis_drawn : Strip → Shape
axis_drawn t = Shape.Lined (axis t ∷ []) (strip_words t)

-- the value of a step, down to the end of its rows
abbrev pub upright : Strip → Step → ℕ → Rule
upright t s end = line (value_x t s.value) (top_of s.row) (value_x t s.value) end

-- to that of the next
abbrev pub across : Strip → Step → Step → Rule
across t s next = line (value_x t s.value) (top_of next.row) (value_x t next.value) (top_of next.row)

abbrev pub step_rules : Strip → Step → Option Step → List Rule
step_rules t s None = upright t s t.bottom ∷ []
step_rules t s (Some next) = upright t s (top_of next.row) ∷ across t s next ∷ []

abbrev pub step_drawn : Strip → Step → Option Step → Shape
step_drawn t s next = Shape.Lined (step_rules t s next) (step_words t s.value)

abbrev pub label_at : ℕ → ℕ → Colour → Label
label_at x y colour = record { x = x; y = y; size = 12; colour = colour; is_centred = false }

abbrev pub step_said : Strip → Step → Shape
step_said t s = Shape.Written (label_at (t.left + 30) (text_line s.row) colours.Black) (value_words s.value)

abbrev pub step_shapes : Strip → Step → Option Step → List Shape
step_shapes t s next = step_drawn t s next ∷ step_said t s ∷ []

abbrev pub first_of : List Step → Option Step
first_of [] = None
first_of (s ∷ ss) = Some s

abbrev pub steps_shapes : Strip → List Step → List Shape
steps_shapes t [] = []
steps_shapes t (s ∷ ss) = step_shapes t s (first_of ss) ++ steps_shapes t ss

-- ---- names

abbrev pub lane_named : Strip → ℕ → Colour → Shape
lane_named t y colour = Shape.Written (label_at t.left y colour) (lane_text t.lane)

abbrev pub level_named : Strip → ℕ → Colour → Shape
level_named t y colour = Shape.Written (label_at t.left y colour) (level_name t.level)

abbrev pub greatest_said : Strip → Shape
greatest_said t = Shape.Written (label_at t.left 90 colours.Grey) (codes "max " ++ decimal t.greatest)

abbrev pub head : Strip → List Shape
head t = lane_named t 68 colours.Black ∷ level_named t 79 colours.Black ∷ greatest_said t ∷ axis_drawn t ∷ []

abbrev pub plate : Strip → ℕ → Shape
plate t y = Shape.Filled (record { left = t.left - 2; top = y - 20; right = t.left + 60; bottom = y; fill = colours.White; edge = colours.White; thickness = 0; is_open = false }) (level_name t.level)

-- the names again, on white, in the stripe that ends at y
abbrev pub names : Strip → ℕ → List Shape
names t y = plate t y ∷ lane_named t (y - 11) colours.Grey ∷ level_named t (y - 1) colours.Grey ∷ []

abbrev pub stripe : Strip → ℕ → List Shape
stripe t k = names t (top_of (40 * (k + 1)))

-- in so many stripes, one below each 40 rows
abbrev pub stripes : Strip → ℕ → List Shape
stripes t zero = []
stripes t (suc k) = stripes t k ++ stripe t k
