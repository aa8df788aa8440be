-- What occurs among shapes that are added one after the other.
use Rattle.std.proofs.Common.{◌≡◌, ◌∙◌, ◌+◌, ◌∷◌, ◌++◌, ◌<◌, ◌≤◌, List, ℕ, [], ap, sym, refl, drop, length, get_or, Bool, true, false, cond}
use Rattle.std.specs.Prelude.{◌||◌, ◌==◌, Option, Some, None}
use Rattle.std.proofs.Math.Bool.{or_assoc}
use Rattle.std.proofs.lemmas.List.Folds.{list_any-append}
use Rattle.tlp_core.specs.Ops.{Op}
use Rattle.seq_memory.specs.Entries.{Entry}
use Rattle.history_words.specs.Records.{Record}
use Rattle.svg_text.specs.declared.colour.Colour.{Colour}
use Rattle.svg_text.specs.declared.colour.Colour.TheVariants as colours
use Rattle.svg_text.specs.declared.shapes.Block.{Block}
use Rattle.svg_text.specs.declared.shapes.Label.{Label}
use Rattle.svg_text.specs.declared.shapes.Rule.{Rule}
use Rattle.svg_text.specs.Shapes.{Shape}
use Rattle.history_bars.specs.declared.bars.Bar.{Bar}
use Rattle.history_bars.specs.declared.words.Request.{Request}
use Rattle.history_bars.specs.declared.marks.View.{View}
use Rattle.history_bars.specs.declared.signs.Signs.{Signs}
use Rattle.history_bars.specs.Layout.{dot_at, white_from, text_x, acted_in, answer_in}
use Rattle.history_bars.specs.Words.{kind_colour, dot_words, tooltip_words}
use Rattle.history_bars.specs.Said.{Said, count_of, is_flawed}
use Rattle.history_bars.specs.Signs.{signs_of, joined, bar_signs, is_kind, is_of_kind, is_dot, is_open_bar}
use Rattle.history_bars.specs.Bars.{bar_block, block_shapes, white_at, white_shapes, said_shapes, text_shapes, dot_shapes, bar_shapes, record_shapes, record_ends, bars, frame, frame_of, height_of, row_ends, row, row_height, rows}
use Rattle.history_bars.proofs.Steps.{cut, cut_number, past}

or-false : (b : Bool) → (b || false) ≡ b
or-false true = refl
or-false false = refl

-- ---- here and there

pub signs-append : (a b : List Shape) → signs_of (a ++ b) ≡ joined (signs_of a) (signs_of b)
unfolding signs_of joined
signs-append a b =
    rw (
      list_any-append (is_of_kind colours.SkyBlue) a b,
      list_any-append (is_of_kind colours.Orange) a b,
      list_any-append (is_of_kind colours.Green) a b,
      list_any-append (is_of_kind colours.Yellow) a b,
      list_any-append (is_of_kind colours.Purple) a b,
      list_any-append is_dot a b,
      list_any-append is_open_bar a b,
    ) refl

joined-assoc : (a b c : Signs) → joined (joined a b) c ≡ joined a (joined b c)
unfolding joined
joined-assoc a b c =
    rw (
      or_assoc a.reads b.reads c.reads,
      or_assoc a.writes b.writes c.writes,
      or_assoc a.adds b.adds c.adds,
      or_assoc a.swaps b.swaps c.swaps,
      or_assoc a.cas b.cas c.cas,
      or_assoc a.dots b.dots c.dots,
      or_assoc a.opens b.opens c.opens,
    ) refl

pub joined-none : (a : Signs) → joined a (signs_of []) ≡ a
unfolding joined signs_of
joined-none a = rw (or-false a.reads, or-false a.writes, or-false a.adds, or-false a.swaps, or-false a.cas, or-false a.dots, or-false a.opens) refl

pub nothing_more : (a : Signs) → a ≡ joined a (signs_of [])
nothing_more a = sym (joined-none a)

pub none-joined : (a : Signs) → joined (signs_of []) a ≡ a
unfolding joined signs_of
none-joined a = refl

-- one part, and then another
pub joined-both : (o p q : Signs) (a b : List Shape) → p ≡ joined o (signs_of a) → q ≡ joined p (signs_of b) → q ≡ joined o (signs_of (a ++ b))
joined-both o p q a b e f =
    f ∙ ap (λ (s : Signs). joined s (signs_of b)) e ∙ joined-assoc o (signs_of a) (signs_of b) ∙ ap (joined o) (sym (signs-append a b))

-- one part of what a loop adds
pub joined-part : (o p : Signs) (a rest : List Shape) → p ≡ joined o (signs_of a) → joined p (signs_of rest) ≡ joined o (signs_of (a ++ rest))
joined-part o p a rest e =
    ap (λ (s : Signs). joined s (signs_of rest)) e ∙ joined-assoc o (signs_of a) (signs_of rest) ∙ ap (joined o) (sym (signs-append a rest))

-- nothing occurs in a part
pub joined-silent : (a b : List Shape) → signs_of b ≡ signs_of [] → signs_of (a ++ b) ≡ signs_of a
joined-silent a b e = signs-append a b ∙ ap (joined (signs_of a)) e ∙ joined-none (signs_of a)

-- nothing occurs before a part
pub silent-joined : (a b : List Shape) → signs_of a ≡ signs_of [] → signs_of (a ++ b) ≡ signs_of b
silent-joined a b e = signs-append a b ∙ ap (λ (s : Signs). joined s (signs_of b)) e ∙ none-joined (signs_of b)

-- ---- a bar

block-signs : (b : Block) (text : List ℕ) → signs_of (Shape.Filled b text ∷ []) ≡ bar_signs b.fill b.is_open None
unfolding signs_of bar_signs
block-signs b text =
    rw (
      or-false (is_kind colours.SkyBlue b.fill),
      or-false (is_kind colours.Orange b.fill),
      or-false (is_kind colours.Green b.fill),
      or-false (is_kind colours.Yellow b.fill),
      or-false (is_kind colours.Purple b.fill),
      or-false b.is_open,
    ) refl

white-signs : (o : Option ℕ) (x top count : ℕ) → signs_of (white_at o x top count) ≡ signs_of []
unfolding signs_of
white-signs None x top count = refl
white-signs (Some from) x top count = refl

said-signs : (said : Said) (bar : Bar) (top : ℕ) → signs_of (said_shapes said bar top) ≡ signs_of []
unfolding signs_of
said-signs said bar top = refl

text-signs : (said : Said) (bar : Bar) (top : ℕ) → signs_of (text_shapes said bar top) ≡ signs_of []
text-signs said bar top =
    joined-silent (white_shapes said bar top) (said_shapes said bar top) (said-signs said bar top)
    ∙ white-signs (white_from bar (count_of said) said.is_wrong) (text_x bar (count_of said)) top (count_of said)

with_dot : (fill : Colour) (is_open : Bool) (o : Option ℕ) (top : ℕ) (words : List ℕ)
    → joined (bar_signs fill is_open None) (signs_of (dot_shapes o top words)) ≡ bar_signs fill is_open o
unfolding joined signs_of bar_signs
with_dot fill is_open None top words =
    rw (
      or-false (is_kind colours.SkyBlue fill),
      or-false (is_kind colours.Orange fill),
      or-false (is_kind colours.Green fill),
      or-false (is_kind colours.Yellow fill),
      or-false (is_kind colours.Purple fill),
      or-false is_open,
    ) refl
with_dot fill is_open (Some offset) top words =
    rw (
      or-false (is_kind colours.SkyBlue fill),
      or-false (is_kind colours.Orange fill),
      or-false (is_kind colours.Green fill),
      or-false (is_kind colours.Yellow fill),
      or-false (is_kind colours.Purple fill),
      or-false is_open,
    ) refl

pub bar-signs : (v : View) (rs : List Record) (op : Op) (q : Request) (said : Said) (bar : Bar) (top : ℕ)
    → signs_of (bar_shapes v rs op q said bar top) ≡ bar_signs (kind_colour op) bar.is_open (dot_at v.scale q.acted)
bar-signs v rs op q said bar top =
    let dot = dot_shapes (dot_at v.scale q.acted) top (dot_words q) in
    let text = text_shapes said bar top in
    let block = block_shapes v rs op q bar top in
    signs-append block (text ++ dot)
    ∙ ap (joined (signs_of block)) (silent-joined text dot (text-signs said bar top))
    ∙ ap (λ (s : Signs). joined s (signs_of dot)) (block-signs (bar_block top (is_flawed v.flawed q.requester q.number) op bar) (tooltip_words rs op q))
    ∙ with_dot (kind_colour op) bar.is_open (dot_at v.scale q.acted) top (dot_words q)

-- ---- bars

pub bars-signs-next : (v : View) (rs : List Record) (acted answer : ℕ → Option ℕ) (i top : ℕ) (ends ends' : List ℕ) (all : List Record) (a : ℕ) (r : Record) (o p : Signs)
    → a < length all → r ≡ get_or all a r → p ≡ joined o (signs_of (record_shapes v rs acted answer i top ends r)) → ends' ≡ record_ends v rs acted answer i ends r
    → joined p (signs_of (bars v rs acted answer i top ends' (drop (a + 1) all))) ≡ joined o (signs_of (bars v rs acted answer i top ends (drop a all)))
bars-signs-next v rs acted answer i top ends ends' all a r o p lt is e f =
    ap (λ (x : List ℕ). joined p (signs_of (bars v rs acted answer i top x (drop (a + 1) all)))) f
    ∙ joined-part o p (record_shapes v rs acted answer i top ends r) (bars v rs acted answer i top (record_ends v rs acted answer i ends r) (drop (a + 1) all)) e
    ∙ ap (λ (x : List Record). joined o (signs_of (bars v rs acted answer i top ends x))) (sym (cut all a r lt is))

pub bars-signs-past : (v : View) (rs : List Record) (acted answer : ℕ → Option ℕ) (i top : ℕ) (ends : List ℕ) (all : List Record) (a : ℕ) (o : Signs)
    → length all ≤ a → o ≡ joined o (signs_of (bars v rs acted answer i top ends (drop a all)))
bars-signs-past v rs acted answer i top ends all a o le =
    sym (joined-none o) ∙ ap (λ (x : List Record). joined o (signs_of (bars v rs acted answer i top ends x))) (sym (past all a le))

-- ---- rows

frame-signs : (b : Bool) (width i top height : ℕ) → signs_of (cond b [] (frame width i top height)) ≡ signs_of []
unfolding signs_of
frame-signs true width i top height = refl
frame-signs false width i top height = refl

pub row-signs : (v : View) (width : ℕ) (rs : List Record) (h : List Entry) (i top : ℕ) (acted answer : ℕ → Option ℕ) (none : List ℕ) (o p : Signs)
    → acted ≡ acted_in h i → answer ≡ answer_in rs i → none ≡ [] → p ≡ joined o (signs_of (bars v rs acted answer i top none rs))
    → p ≡ joined o (signs_of (row v width rs h i top))
unfolding row
row-signs v width rs h i top acted answer none o p a b n e =
    let ends = row_ends v rs h i in
    e ∙ ap (λ (x : ℕ → Option ℕ). joined o (signs_of (bars v rs x answer i top none rs))) a
    ∙ ap (λ (x : ℕ → Option ℕ). joined o (signs_of (bars v rs (acted_in h i) x i top none rs))) b
    ∙ ap (λ (x : List ℕ). joined o (signs_of (bars v rs (acted_in h i) (answer_in rs i) i top x rs))) n
    ∙ ap (joined o) (sym (joined-silent (bars v rs (acted_in h i) (answer_in rs i) i top [] rs) (frame_of width i top ends) (frame-signs (length ends == 0) width i top (height_of ends))))

pub rows-signs-next : (v : View) (width : ℕ) (rs : List Record) (h : List Entry) (top height : ℕ) (all : List ℕ) (a i : ℕ) (o p : Signs)
    → a < length all → i ≡ get_or all a 0 → p ≡ joined o (signs_of (row v width rs h i top)) → height ≡ row_height v rs h i
    → joined p (signs_of (rows v width rs h (top + height) (drop (a + 1) all))) ≡ joined o (signs_of (rows v width rs h top (drop a all)))
rows-signs-next v width rs h top height all a i o p lt is e f =
    ap (λ (x : ℕ). joined p (signs_of (rows v width rs h (top + x) (drop (a + 1) all)))) f
    ∙ joined-part o p (row v width rs h i top) (rows v width rs h (top + row_height v rs h i) (drop (a + 1) all)) e
    ∙ ap (λ (x : List ℕ). joined o (signs_of (rows v width rs h top x))) (sym (cut_number all a i lt is))

pub rows-signs-past : (v : View) (width : ℕ) (rs : List Record) (h : List Entry) (top : ℕ) (all : List ℕ) (a : ℕ) (o : Signs)
    → length all ≤ a → o ≡ joined o (signs_of (rows v width rs h top (drop a all)))
rows-signs-past v width rs h top all a o le =
    sym (joined-none o) ∙ ap (λ (x : List ℕ). joined o (signs_of (rows v width rs h top x))) (sym (past all a le))

-- ---- shapes in which nothing occurs, and entries

pub lined-signs : (label : Label) (text : List ℕ) (rules : List Rule) (title : List ℕ) → signs_of (Shape.Written label text ∷ Shape.Lined rules title ∷ []) ≡ signs_of []
unfolding signs_of
lined-signs label text rules title = refl

pub marked-signs : (rules : List Rule) (title : List ℕ) (label : Label) (text : List ℕ) → signs_of (Shape.Lined rules title ∷ Shape.Written label text ∷ []) ≡ signs_of []
unfolding signs_of
marked-signs rules title label text = refl

pub titled-signs : (b : Block) (text : List ℕ) (label : Label) (words : List ℕ) → signs_of (Shape.Filled b text ∷ Shape.Written label words ∷ []) ≡ bar_signs b.fill b.is_open None
unfolding signs_of bar_signs
titled-signs b text label words =
    rw (
      or-false (is_kind colours.SkyBlue b.fill),
      or-false (is_kind colours.Orange b.fill),
      or-false (is_kind colours.Green b.fill),
      or-false (is_kind colours.Yellow b.fill),
      or-false (is_kind colours.Purple b.fill),
      or-false b.is_open,
    ) refl
