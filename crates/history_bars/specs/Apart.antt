-- Bars of one requester stand apart.
use Rattle.std.specs.Prelude.{ℕ, ◌≡◌, ◌<◌, ◌+◌, ◌*◌, List, [], ◌∷◌, slice_get, Some}
use Rattle.seq_memory.specs.Entries.{Entry}
use Rattle.history_words.specs.Records.{Record}
use Rattle.svg_text.specs.declared.shapes.Block.{Block}
use Rattle.svg_text.specs.Shapes.{Shape}
use Rattle.history_bars.specs.declared.marks.View.{View}
use Rattle.history_bars.specs.Layout.{acted_in, answer_in}
use Rattle.history_bars.specs.Bars.{bars}

-- the bars of requester i, in a row whose first sub-row begins at top
abbrev pub bars_of : View → List Record → List Entry → ℕ → ℕ → List Shape
bars_of v rs h i top = bars v rs (acted_in h i) (answer_in rs i) i top [] rs

-- of two bars of a requester in one sub-row, but for the last, the later one begins to the right of the earlier one's
-- end; white behind a text is no bar, and has no title
abbrev pub BarsDoNotOverlap : Type 0
BarsDoNotOverlap = (v : View) (rs : List Record) (h : List Entry) (i top p q x y : ℕ) (a b : Block) (text words : List ℕ)
    → slice_get (bars_of v rs h i top) p ≡ Some (Shape.Filled a (x ∷ text)) → slice_get (bars_of v rs h i top) q ≡ Some (Shape.Filled b (y ∷ words))
    → p < q → a.top ≡ b.top → a.top < top + 40 * 255 → a.right < b.left
