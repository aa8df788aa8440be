-- Entries that are added one after the other.
use Rattle.std.proofs.Common.{◌≡◌, ◌∙◌, ◌+◌, ◌++◌, ◌<◌, ◌≤◌, List, [], ℕ, ap, sym, refl, drop, length, get_or, false}
use Rattle.std.specs.Prelude.{Option, Some, None}
use Rattle.seq_memory.specs.Entries.{Entry}
use Rattle.history_words.specs.Records.{Record}
use Rattle.history_words.specs.Names.{name_of}
use Rattle.history_words.specs.declared.flaws.Flaw.{Flaw}
use Rattle.svg_text.specs.declared.colour.Colour.TheVariants as colours
use Rattle.svg_text.specs.Shapes.{shapes_text}
use Rattle.history_bars.specs.declared.scale.Scale.{Scale}
use Rattle.history_bars.specs.declared.marks.View.{View}
use Rattle.history_bars.specs.declared.signs.Signs.{Signs}
use Rattle.history_bars.specs.Signs.{signs_of, joined, bar_signs}
use Rattle.history_bars.specs.Words.{kind_colour, entry_words, pair_words}
use Rattle.history_bars.specs.Layout.{x_at}
use Rattle.history_bars.specs.Marks.{centred_label}
use Rattle.history_bars.proofs.Steps.{both, part, cut, past}
use Rattle.history_bars.proofs.Occurring.{joined-part, joined-none, silent-joined, lined-signs, marked-signs, titled-signs}
use Rattle.history_picture.specs.Picture.{tick, entry_block, entry_shapes, entries, mark_of, mark_at, mark_shapes}

-- ---- entries

pub entries-next : (v : View) (bottom offset : ℕ) (all : List Entry) (a : ℕ) (e : Entry) (o p q : List ℕ)
    → a < length all → e ≡ get_or all a e → p ≡ o ++ shapes_text (tick v.scale.from offset bottom) → q ≡ p ++ shapes_text (entry_shapes v offset e)
    → q ++ shapes_text (entries v bottom (offset + 1) (drop (a + 1) all)) ≡ o ++ shapes_text (entries v bottom offset (drop a all))
entries-next v bottom offset all a e o p q lt is d f =
    part o q (tick v.scale.from offset bottom ++ entry_shapes v offset e) (entries v bottom (offset + 1) (drop (a + 1) all))
    (both o p q (tick v.scale.from offset bottom) (entry_shapes v offset e) d f)
    ∙ ap (λ (x : List Entry). o ++ shapes_text (entries v bottom offset x)) (sym (cut all a e lt is))

pub entries-past : (v : View) (bottom offset : ℕ) (all : List Entry) (a : ℕ) (o p : List ℕ)
    → length all ≤ a → p ≡ o ++ shapes_text (tick v.scale.from offset bottom) → p ≡ o ++ shapes_text (entries v bottom offset (drop a all))
entries-past v bottom offset all a o p le e = e ∙ ap (λ (x : List Entry). o ++ shapes_text (entries v bottom offset x)) (sym (past all a le))

-- ---- what occurs among them

tick-signs : (from offset bottom : ℕ) → signs_of (tick from offset bottom) ≡ signs_of []
tick-signs from offset bottom = lined-signs _ _ _ _

pub entry-signs : (v : View) (bottom offset : ℕ) (e : Entry) → signs_of (tick v.scale.from offset bottom ++ entry_shapes v offset e) ≡ bar_signs (kind_colour e.op) false None
entry-signs v bottom offset e =
    silent-joined (tick v.scale.from offset bottom) (entry_shapes v offset e) (tick-signs v.scale.from offset bottom)
    ∙ titled-signs (entry_block v offset e) (entry_words (v.scale.from + offset) e.requester e.number e.op) (centred_label (x_at offset + 48) 109 colours.Black) (pair_words e.requester e.number)

pub entries-signs-next : (v : View) (bottom offset : ℕ) (all : List Entry) (a : ℕ) (e : Entry) (o p : Signs)
    → a < length all → e ≡ get_or all a e → p ≡ joined o (bar_signs (kind_colour e.op) false None)
    → joined p (signs_of (entries v bottom (offset + 1) (drop (a + 1) all))) ≡ joined o (signs_of (entries v bottom offset (drop a all)))
entries-signs-next v bottom offset all a e o p lt is f =
    joined-part o p (tick v.scale.from offset bottom ++ entry_shapes v offset e) (entries v bottom (offset + 1) (drop (a + 1) all)) (f ∙ ap (joined o) (sym (entry-signs v bottom offset e)))
    ∙ ap (λ (x : List Entry). joined o (signs_of (entries v bottom offset x))) (sym (cut all a e lt is))

pub entries-signs-past : (v : View) (bottom offset : ℕ) (all : List Entry) (a : ℕ) (o : Signs)
    → length all ≤ a → o ≡ joined o (signs_of (entries v bottom offset (drop a all)))
entries-signs-past v bottom offset all a o le =
    sym (joined-none o) ∙ ap (joined o) (sym (tick-signs v.scale.from offset bottom))
    ∙ ap (λ (x : List Entry). joined o (signs_of (entries v bottom offset x))) (sym (past all a le))

-- ---- the mark

pub mark-signs : (s : Scale) (rs : List Record) (f : Option Flaw) (bottom : ℕ) → signs_of (mark_shapes s rs f bottom) ≡ signs_of []
mark-signs s rs None bottom = refl
mark-signs s rs (Some f) bottom = at (mark_of s rs f)
  where
    at : (o : Option ℕ) → signs_of (mark_at o (name_of f.kind) bottom) ≡ signs_of []
    at None = refl
    at (Some x) = marked-signs _ _ _ _
