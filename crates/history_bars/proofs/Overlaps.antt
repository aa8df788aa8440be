-- Bars of one requester in one sub-row don't overlap.
use Rattle.std.proofs.Common.{◌≡◌, ◌∙◌, ◌+◌, ◌-◌, ◌*◌, ◌/◌, ◌∷◌, ◌++◌, ◌<◌, ◌≤◌, List, ℕ, [], zero, suc, Bool, true, false, cond, ap, sym, refl, subst, set, length, get_or, arith, inl, inr, min, max}
use Rattle.std.specs.Prelude.{Option, Some, None, slice_get, nat_le, nat_lt, ◌==◌}
use Rattle.std.proofs.lemmas.Bool.{cases_eq, leb-true, ltb-true}
use Rattle.std.proofs.lemmas.Bool.Decides.{leb_tells}
use Rattle.std.proofs.lemmas.List.{get_or-set_same, get_or-set_other, get_or_append_left, length-set, length-append}
use Rattle.std.proofs.Math.Seq.{get_or-append_seam}
use Rattle.tlp_core.specs.Ops.{Op}
use Rattle.tlp_core.specs.Operation.{is_posted}
use Rattle.history_words.specs.Records.{Record}
use Rattle.history_words.specs.declared.record.RecordOf.TheVariants as records
use Rattle.svg_text.specs.declared.shapes.Block.{Block}
use Rattle.svg_text.specs.declared.shapes.Label.{Label}
use Rattle.svg_text.specs.Shapes.{Shape}
use Rattle.history_bars.specs.declared.scale.Scale.{Scale}
use Rattle.history_bars.specs.declared.bars.Bar.{Bar}
use Rattle.history_bars.specs.declared.words.Request.{Request}
use Rattle.history_bars.specs.declared.marks.View.{View}
use Rattle.history_bars.specs.Layout.{x_at, acted_in, answer_in, dot_at, is_shown, end_of, fits, reach, free_row, row_for, taken, white_from, with_bar}
use Rattle.history_bars.specs.Words.{answer_at, dot_words, moment_of}
use Rattle.history_bars.specs.Said.{Said, count_of, is_flawed, said_of}
use Rattle.history_bars.specs.Bars.{bar_block, bar_for, dot_shapes, placed_shapes, placed_ends, request_of, bars, text_shapes, white_at}
use Rattle.history_bars.specs.Apart.{BarsDoNotOverlap}

abbrev the_bar : ℕ → ℕ → Bool → Bar
the_bar start end is_open = record { start = start; end = end; is_open = is_open }

no_both : {b : Bool} → b ≡ true → b ≡ false → ⊥
no_both e f = cc

-- ---- free sub-rows

free_by : (b : Bool) (e start : ℕ) (es : List ℕ) → nat_le e start ≡ b → (free_row es start < length es → get_or es (free_row es start) 0 ≤ start)
    → cond b 0 (free_row es start + 1) < suc (length es) → get_or (e ∷ es) (cond b 0 (free_row es start + 1)) 0 ≤ start
free_by true e start es is next lt = leb-true e start is
free_by false e start es is next lt =
    let one : free_row es start + 1 ≡ suc (free_row es start) = omega arith in
    rw one (next (omega (arith, lt)))

free_right : (ends : List ℕ) (start : ℕ) → free_row ends start < length ends → get_or ends (free_row ends start) 0 ≤ start
free_right [] start lt = absurd (omega (arith, lt))
free_right (e ∷ es) start lt = free_by (nat_le e start) e start es refl (free_right es start) lt

low_by : (b : Bool) (row count : ℕ) → row ≤ count → cond b 0 (row + 1) ≤ suc count
low_by true row count le = omega arith
low_by false row count le = omega (arith, le)

free_low : (ends : List ℕ) (start : ℕ) → free_row ends start ≤ length ends
free_low [] start = omega arith
free_low (e ∷ es) start = low_by (nat_le e start) (free_row es start) (length es) (free_low es start)

-- ---- the ends of sub-rows, with a bar more

abbrev Keeps : List ℕ → List ℕ → ℕ → Type 0
Keeps ends more j = (j < length more) × (get_or ends j 0 ≤ get_or more j 0)

grows_by : (b : Bool) (ends : List ℕ) (row end j : ℕ) → (j ≡ row → get_or ends j 0 ≤ end) → nat_lt row (length ends) ≡ b → j < length ends
    → Keeps ends (cond b (set ends row end) (ends ++ end ∷ [])) j
grows_by true ends row end j same is lt =
    let inside : j < length (set ends row end) = rw (length-set ends row end) lt in
    elim (cases_eq j row) [
      | inl e ↦
          let here : get_or (set ends row end) j 0 ≡ end = ap (λ (x : ℕ). get_or (set ends row end) x 0) e ∙ get_or-set_same ends row end 0 (ltb-true row (length ends) is) in
          let less : get_or ends j 0 ≤ end = same e in
          (inside, omega (arith, here, less))
      | inr ne ↦
          let there : get_or (set ends row end) j 0 ≡ get_or ends j 0 = get_or-set_other ends row j end 0 ne in
          (inside, omega (arith, there))
    ]
grows_by false ends row end j same is lt =
    let len : length (ends ++ end ∷ []) ≡ length ends + 1 = length-append ends (end ∷ []) in
    let there : get_or (ends ++ end ∷ []) j 0 ≡ get_or ends j 0 = get_or_append_left ends (end ∷ []) 0 j lt in
    (omega (arith, len, lt), omega (arith, there))

grows : (ends : List ℕ) (start end j : ℕ) → start < end → j < 255 → j < length ends → Keeps ends (with_bar ends (row_for ends start) end) j
grows ends start end j long small lt =
    grows_by (nat_lt (row_for ends start) (length ends)) ends (row_for ends start) end j
    (λ e. let free : free_row ends start ≡ j = omega (arith, e, small) in
    let before : get_or ends (free_row ends start) 0 ≤ start = free_right ends start (omega (arith, free, lt)) in
    let at : get_or ends (free_row ends start) 0 ≡ get_or ends j 0 = ap (λ (x : ℕ). get_or ends x 0) free in
    omega (arith, before, at, long))
    refl lt

holds_by : (b : Bool) (ends : List ℕ) (row end : ℕ) → nat_lt row (length ends) ≡ b → row ≤ length ends
    → (row < length (cond b (set ends row end) (ends ++ end ∷ []))) × (get_or (cond b (set ends row end) (ends ++ end ∷ [])) row 0 ≡ end)
holds_by true ends row end is le =
    let lt : row < length ends = ltb-true row (length ends) is in
    (rw (length-set ends row end) lt, get_or-set_same ends row end 0 lt)
holds_by false ends row end is le =
    let last : length ends ≡ row = elim (leb_tells (suc row) (length ends)) [ inl w ↦ absurd (no_both w.0 is) | inr w ↦ let past : length ends < suc row = w.1 in omega (arith, past, le) ] in
    let len : length (ends ++ end ∷ []) ≡ length ends + 1 = length-append ends (end ∷ []) in
    (omega (arith, len, last), ap (λ (x : ℕ). get_or (ends ++ end ∷ []) x 0) (sym last) ∙ get_or-append_seam ends end [] 0)

holds : (ends : List ℕ) (start end : ℕ)
    → (row_for ends start < length (with_bar ends (row_for ends start) end)) × (get_or (with_bar ends (row_for ends start) end) (row_for ends start) 0 ≡ end)
holds ends start end =
    let low : free_row ends start ≤ length ends = free_low ends start in
    holds_by (nat_lt (row_for ends start) (length ends)) ends (row_for ends start) end refl (omega (arith, low))

-- ---- bars are one point long at least

of_some : {X : Type 0} (x y : X) → Some x ≡ Some y → x ≡ y
of_some x y e = cc

long_by : (b : Bool) (start end : ℕ) (is_open : Bool) (bar : Bar) → (b ≡ true → start < end) → cond b (Some (the_bar start end is_open)) None ≡ Some bar → bar.start < bar.end
long_by true start end is_open bar long e = subst (λ (x : Bar). x.start < x.end) (of_some (the_bar start end is_open) bar e) (long refl)
long_by false start end is_open bar long e = absurd cc

longer : (a b : ℕ) → a < max b (a + 1)
longer a b = omega arith

shown_long : (s : Scale) (n : ℕ) (o : Option ℕ) → is_shown s n o ≡ true → n - s.from < end_of s (n - s.from) o
shown_long s n None e =
    let le : n - s.from ≤ s.span = leb-true (n - s.from) s.span e in
    omega (arith, le)
shown_long s n (Some end) e = longer (n - s.from) (min (end - s.from) (s.span + 1))

bar_long : (v : View) (rs : List Record) (op : Op) (q : Request) (bar : Bar) → bar_for v rs op q ≡ Some bar → bar.start < bar.end
bar_long v rs op q bar e =
    let o = reach (is_posted op) (moment_of (answer_at rs q.answer)) q.acted in
    long_by (is_shown v.scale q.n o) (q.n - v.scale.from) (end_of v.scale (q.n - v.scale.from) o) _ bar (shown_long v.scale q.n o) e

-- its texts may take more
taken_by : (b : Bool) (end count : ℕ) → end ≤ cond b end (end + 1 + count / 12)
taken_by true end count = omega arith
taken_by false end count = omega arith

takes : (bar : Bar) (count : ℕ) → bar.end ≤ taken bar count
takes bar count = taken_by (fits bar count) bar.end count

-- ---- a bar that comes after these ends

record IsAfter (top : ℕ) (ends : List ℕ) (b : Block) : Type 0 where
  row : ℕ
  low : row ≤ 255
  top_is : b.top ≡ top + 40 * row
  left_is : row < 255 → row < length ends → x_at (get_or ends row 0) < b.left

-- none of these is a block with a title
abbrev NoBars : List Shape → Type 0
NoBars [] = Unit {0}
NoBars (Shape.Filled b [] ∷ ss) = NoBars ss
NoBars (Shape.Filled b (x ∷ text) ∷ ss) = ⊥
NoBars (Shape.Dotted d text ∷ ss) = NoBars ss
NoBars (Shape.Lined rs text ∷ ss) = NoBars ss
NoBars (Shape.Written l text ∷ ss) = NoBars ss

abbrev Found : List Shape → ℕ → ℕ → Block → ℕ → List ℕ → Type 0
Found rest p count b x text = (q : ℕ) × (slice_get rest q ≡ Some (Shape.Filled b (x ∷ text))) × (p ≡ q + count)

one_more : (rest : List Shape) (p count : ℕ) (b : Block) (x : ℕ) (text : List ℕ) → Found rest p count b x text → Found rest (suc p) (suc count) b x text
one_more rest p count b x text found = let is : p ≡ found.0 + count = found.2 in (found.0, found.1, omega (arith, is))

past : (ss rest : List Shape) → NoBars ss → (p : ℕ) (b : Block) (x : ℕ) (text : List ℕ) → slice_get (ss ++ rest) p ≡ Some (Shape.Filled b (x ∷ text)) → Found rest p (length ss) b x text
past [] rest clear p b x text e = (p, e, omega arith)
past (Shape.Filled c [] ∷ ss) rest clear zero b x text e = absurd cc
past (Shape.Filled c [] ∷ ss) rest clear (suc p) b x text e = one_more rest p (length ss) b x text (past ss rest clear p b x text e)
past (Shape.Filled c (y ∷ words) ∷ ss) rest clear p b x text e = absurd clear
past (Shape.Dotted d words ∷ ss) rest clear zero b x text e = absurd cc
past (Shape.Dotted d words ∷ ss) rest clear (suc p) b x text e = one_more rest p (length ss) b x text (past ss rest clear p b x text e)
past (Shape.Lined rs words ∷ ss) rest clear zero b x text e = absurd cc
past (Shape.Lined rs words ∷ ss) rest clear (suc p) b x text e = one_more rest p (length ss) b x text (past ss rest clear p b x text e)
past (Shape.Written l words ∷ ss) rest clear zero b x text e = absurd cc
past (Shape.Written l words ∷ ss) rest clear (suc p) b x text e = one_more rest p (length ss) b x text (past ss rest clear p b x text e)

-- what is said at a bar, and its dot
abbrev beside : View → List Record → Op → Request → Bar → ℕ → List Shape
beside v rs op q bar top = text_shapes (said_of v rs op q) bar top ++ dot_shapes (dot_at v.scale q.acted) top (dot_words q)

no_bars : (white dot : Option ℕ) (x top count : ℕ) (a b : Label) (asked told : List ℕ) (at : ℕ) (words : List ℕ)
    → NoBars ((white_at white x top count ++ (Shape.Written a asked ∷ Shape.Written b told ∷ [])) ++ dot_shapes dot at words)
no_bars None None x top count a b asked told at words = tt
no_bars None (Some n) x top count a b asked told at words = tt
no_bars (Some m) None x top count a b asked told at words = tt
no_bars (Some m) (Some n) x top count a b asked told at words = tt

none_beside : (v : View) (rs : List Record) (op : Op) (q : Request) (bar : Bar) (top : ℕ) → NoBars (beside v rs op q bar top)
none_beside v rs op q bar top =
    let said : Said = said_of v rs op q in
    no_bars (white_from bar (count_of said) said.is_wrong) (dot_at v.scale q.acted) _ _ _ _ _ _ _ _ _

of_filled : (a b : Block) (text words : List ℕ) → Some (Shape.Filled a text) ≡ Some (Shape.Filled b words) → a ≡ b
of_filled a b text words e = cc

-- the ends of the sub-rows once the bar has its place
abbrev ends_with : List ℕ → Bar → ℕ → List ℕ
ends_with ends bar count = with_bar ends (row_for ends bar.start) (taken bar count)

low_row : (ends : List ℕ) (start : ℕ) → row_for ends start ≤ 255
low_row ends start = omega arith

earlier : (top : ℕ) (ends : List ℕ) (bar : Bar) (count : ℕ) (b : Block) → bar.start < bar.end → IsAfter top (ends_with ends bar count) b → IsAfter top ends b
earlier top ends bar count b long s = record {
  row = s.row;
  low = s.low;
  top_is = s.top_is;
  left_is = λ small. λ lt.
      let more : bar.end ≤ taken bar count = takes bar count in
      let far : bar.start < taken bar count = omega (arith, long, more) in
      let kept : Keeps ends (ends_with ends bar count) s.row = grows ends bar.start (taken bar count) s.row far small lt in
      let left : 120 + 96 * get_or (ends_with ends bar count) s.row 0 < b.left = s.left_is small kept.0 in
      let less : get_or ends s.row 0 ≤ get_or (ends_with ends bar count) s.row 0 = kept.1 in
      omega (arith, left, less);
}

own : (v : View) (op : Op) (q : Request) (top : ℕ) (ends : List ℕ) (bar : Bar)
    → IsAfter top ends (bar_block (top + 40 * row_for ends bar.start) (is_flawed v.flawed q.requester q.number) op bar)
own v op q top ends bar = record {
  row = row_for ends bar.start;
  low = low_row ends bar.start;
  top_is = refl;
  left_is = λ small. λ lt.
      let free : free_row ends bar.start ≡ row_for ends bar.start = omega (arith, small) in
      let before : get_or ends (free_row ends bar.start) 0 ≤ bar.start = free_right ends bar.start (omega (arith, free, lt)) in
      let at : get_or ends (free_row ends bar.start) 0 ≡ get_or ends (row_for ends bar.start) 0 = ap (λ (x : ℕ). get_or ends x 0) free in
      omega (arith, before, at);
}

-- what is placed of one record, and then the rest
abbrev placed : Bool → View → List Record → Op → Request → ℕ → List ℕ → Option Bar → (List ℕ → List Shape) → List Shape
placed t v rs op q top ends o rest = cond t (placed_shapes v rs op q top ends o) [] ++ rest (cond t (placed_ends v rs op q ends o) ends)

abbrev AllAfter : ℕ → (List ℕ → List Shape) → Type 0
AllAfter top rest = (ends : List ℕ) (p : ℕ) (b : Block) (x : ℕ) (text : List ℕ) → slice_get (rest ends) p ≡ Some (Shape.Filled b (x ∷ text)) → IsAfter top ends b

after_placed : (t : Bool) (v : View) (rs : List Record) (op : Op) (q : Request) (top : ℕ) (ends : List ℕ) (o : Option Bar) (rest : List ℕ → List Shape)
    → AllAfter top rest → ((bar : Bar) → o ≡ Some bar → bar.start < bar.end) → (p : ℕ) (b : Block) (x : ℕ) (text : List ℕ)
    → slice_get (placed t v rs op q top ends o rest) p ≡ Some (Shape.Filled b (x ∷ text)) → IsAfter top ends b
after_placed false v rs op q top ends o rest all long p b x text e = all ends p b x text e
after_placed true v rs op q top ends None rest all long p b x text e = all ends p b x text e
after_placed true v rs op q top ends (Some bar) rest all long zero b x text e =
    subst (IsAfter top ends) (of_filled (bar_block (top + 40 * row_for ends bar.start) (is_flawed v.flawed q.requester q.number) op bar) b _ (x ∷ text) e) (own v op q top ends bar)
after_placed true v rs op q top ends (Some bar) rest all long (suc p) b x text e =
    let count = count_of (said_of v rs op q) in
    let parts = beside v rs op q bar (top + 40 * row_for ends bar.start) in
    let found : Found (rest (ends_with ends bar count)) p (length parts) b x text =
    past parts (rest (ends_with ends bar count)) (none_beside v rs op q bar (top + 40 * row_for ends bar.start)) p b x text e in
    earlier top ends bar count b (long bar refl) (all (ends_with ends bar count) found.0 b x text found.1)

later : (v : View) (rs : List Record) (acted answer : ℕ → Option ℕ) (i top : ℕ) (all : List Record) → AllAfter top (λ ends. bars v rs acted answer i top ends all)
later v rs acted answer i top [] ends p b x text e = absurd cc
later v rs acted answer i top (records.Ans j k reply n ∷ more) ends p b x text e = later v rs acted answer i top more ends p b x text e
later v rs acted answer i top (records.Sub j k op n ∷ more) ends p b x text e =
    let q = request_of i acted answer k n in
    after_placed (j == i) v rs op q top ends (bar_for v rs op q) (λ es. bars v rs acted answer i top es more) (later v rs acted answer i top more)
    (λ bar f. bar_long v rs op q bar f) p b x text e

-- ---- two bars

abbrev AllApart : ℕ → (List ℕ → List Shape) → Type 0
AllApart top rest = (ends : List ℕ) (p q x y : ℕ) (a b : Block) (text words : List ℕ)
    → slice_get (rest ends) p ≡ Some (Shape.Filled a (x ∷ text)) → slice_get (rest ends) q ≡ Some (Shape.Filled b (y ∷ words))
    → p < q → a.top ≡ b.top → a.top < top + 40 * 255 → a.right < b.left

next_to : (top : ℕ) (ends : List ℕ) (bar : Bar) (count : ℕ) (b : Block) (top' : ℕ) → top' ≡ top + 40 * row_for ends bar.start
    → IsAfter top (ends_with ends bar count) b → top' ≡ b.top → top' < top + 40 * 255 → x_at bar.end - 1 < b.left
next_to top ends bar count b top' is s same small =
    let top_is : b.top ≡ top + 40 * s.row = s.top_is in
    let row : s.row ≡ row_for ends bar.start = omega (arith, top_is, is, same) in
    let low : s.row < 255 = omega (arith, top_is, same, small) in
    let more : bar.end ≤ taken bar count = takes bar count in
    let held : (row_for ends bar.start < length (ends_with ends bar count)) × (get_or (ends_with ends bar count) (row_for ends bar.start) 0 ≡ taken bar count) =
    holds ends bar.start (taken bar count) in
    let lt : s.row < length (ends_with ends bar count) = subst (λ (x : ℕ). x < length (ends_with ends bar count)) (sym row) held.0 in
    let end : get_or (ends_with ends bar count) s.row 0 ≡ taken bar count = ap (λ (x : ℕ). get_or (ends_with ends bar count) x 0) row ∙ held.1 in
    let left : 120 + 96 * get_or (ends_with ends bar count) s.row 0 < b.left = s.left_is low lt in
    omega (arith, left, end, more)

apart_placed : (t : Bool) (v : View) (rs : List Record) (op : Op) (request : Request) (top : ℕ) (ends : List ℕ) (o : Option Bar) (rest : List ℕ → List Shape)
    → AllAfter top rest → AllApart top rest → (p q x y : ℕ) (a b : Block) (text words : List ℕ)
    → slice_get (placed t v rs op request top ends o rest) p ≡ Some (Shape.Filled a (x ∷ text))
    → slice_get (placed t v rs op request top ends o rest) q ≡ Some (Shape.Filled b (y ∷ words))
    → p < q → a.top ≡ b.top → a.top < top + 40 * 255 → a.right < b.left
apart_placed false v rs op request top ends o rest after all p q x y a b text words e f = all ends p q x y a b text words e f
apart_placed true v rs op request top ends None rest after all p q x y a b text words e f = all ends p q x y a b text words e f
apart_placed true v rs op request top ends (Some bar) rest after all p zero x y a b text words e f = λ lt. absurd (omega (arith, lt))
apart_placed true v rs op request top ends (Some bar) rest after all zero (suc q) x y a b text words e f =
    λ lt. λ same. λ small.
    let count = count_of (said_of v rs op request) in
    let at = top + 40 * row_for ends bar.start in
    let parts = beside v rs op request bar at in
    let block = bar_block at (is_flawed v.flawed request.requester request.number) op bar in
    let is : block ≡ a = of_filled block a _ (x ∷ text) e in
    let found : Found (rest (ends_with ends bar count)) q (length parts) b y words =
    past parts (rest (ends_with ends bar count)) (none_beside v rs op request bar at) q b y words f in
    let less : x_at bar.end - 1 < b.left =
    next_to top ends bar count b a.top (sym (ap (λ (c : Block). c.top) is)) (after (ends_with ends bar count) found.0 b y words found.1) same small in
    subst (λ (c : Block). c.right < b.left) is less
apart_placed true v rs op request top ends (Some bar) rest after all (suc p) (suc q) x y a b text words e f =
    λ lt. λ same. λ small.
    let count = count_of (said_of v rs op request) in
    let at = top + 40 * row_for ends bar.start in
    let parts = beside v rs op request bar at in
    let none = none_beside v rs op request bar at in
    let first : Found (rest (ends_with ends bar count)) p (length parts) a x text = past parts (rest (ends_with ends bar count)) none p a x text e in
    let second : Found (rest (ends_with ends bar count)) q (length parts) b y words = past parts (rest (ends_with ends bar count)) none q b y words f in
    let first_at : p ≡ first.0 + length parts = first.2 in
    let second_at : q ≡ second.0 + length parts = second.2 in
    all (ends_with ends bar count) first.0 second.0 x y a b text words first.1 second.1 (omega (arith, lt, first_at, second_at)) same small

all_apart : (v : View) (rs : List Record) (acted answer : ℕ → Option ℕ) (i top : ℕ) (all : List Record) → AllApart top (λ ends. bars v rs acted answer i top ends all)
all_apart v rs acted answer i top [] ends p q x y a b text words e f = absurd cc
all_apart v rs acted answer i top (records.Ans j k reply n ∷ more) ends p q x y a b text words e f = all_apart v rs acted answer i top more ends p q x y a b text words e f
all_apart v rs acted answer i top (records.Sub j k op n ∷ more) ends p q x y a b text words e f =
    let request = request_of i acted answer k n in
    apart_placed (j == i) v rs op request top ends (bar_for v rs op request) (λ es. bars v rs acted answer i top es more)
    (later v rs acted answer i top more) (all_apart v rs acted answer i top more) p q x y a b text words e f

pub apart : BarsDoNotOverlap
apart v rs h i top p q x y a b text words e f = all_apart v rs (acted_in h i) (answer_in rs i) i top rs [] p q x y a b text words e f
