-- Each request has its bar.
use Rattle.std.proofs.Common.{◌≡◌, ◌∙◌, ◌+◌, ◌-◌, ◌*◌, ◌∷◌, ◌++◌, ◌<◌, ◌≤◌, List, ℕ, [], zero, suc, Bool, true, false, cond, ap, ap₂, sym, refl, subst, append_assoc, arith, min, max, inl, inr}
use Rattle.std.specs.Prelude.{Option, Some, None, option_map, slice_get, nat_le, nat_lt, ◌==◌, ◌&&◌, ◌||◌, ◌⊎◌}
use Rattle.std.proofs.lemmas.Bool.{eq-eqb, eqb-true, le-leb, lt-ltb, ltb-true, ltb-false}
use Rattle.tlp_core.specs.Ops.{Op}
use Rattle.seq_memory.specs.Entries.{Entry}
use Rattle.seq_memory.specs.Entries.{Reply}
use Rattle.history_words.specs.Records.{Record}
use Rattle.history_words.specs.declared.record.RecordOf.TheVariants as records
use Rattle.svg_text.specs.declared.shapes.Dot.{Dot}
use Rattle.svg_text.specs.Shapes.{Shape}
use Rattle.history_bars.specs.declared.scale.Scale.{Scale}
use Rattle.history_bars.specs.declared.bars.Bar.{Bar}
use Rattle.history_bars.specs.declared.marks.View.{View}
use Rattle.history_bars.specs.Layout.{x_at, acted_in, answer_in, bar_of, dot_at, row_for}
use Rattle.history_bars.specs.Words.{answer_at, moment_of}
use Rattle.history_bars.specs.Said.{said_of}
use Rattle.history_bars.specs.Signs.{signs_of}
use Rattle.history_bars.specs.Bars.{bar_for, bar_shapes, dot_shapes, placed_shapes, record_shapes, record_ends, bars, frame_of, row_ends, row, row_height, rows, requesters, bottom_of}
use Rattle.history_picture.specs.declared.scale.Window.{Window}
use Rattle.history_picture.specs.Points.{is_open, is_cut, chosen, around, flaw_point}
use Rattle.history_picture.specs.Picture.{width_of, entries, shown_entries, mark_shapes, body, heading, flaw_of}
use Rattle.history_picture.specs.Shown.{Has, IsSubmitted, EachRequestHasItsBar, BarsGoFromSubmissionToAnswer, DotsStandAtEntries, request_in, WholeHistoriesAreShown, FewPointsAreShown, FlawsAreShown, IsWithin}

-- ---- parts of lists

at_first : (part rest : List Shape) → Has (part ++ rest) part
at_first part rest = record { before = []; after = rest; is = refl }

has_after : (xs all part : List Shape) → Has all part → Has (xs ++ all) part
has_after xs all part s = record {
  before = xs ++ s.before;
  after = s.after;
  is = ap (λ (l : List Shape). xs ++ l) s.is ∙ sym (append_assoc xs s.before (part ++ s.after));
}

has_before : (all rest part : List Shape) → Has all part → Has (all ++ rest) part
has_before all rest part s = record {
  before = s.before;
  after = s.after ++ rest;
  is = ap (λ (l : List Shape). l ++ rest) s.is ∙ append_assoc s.before (part ++ s.after) rest ∙ ap (λ (l : List Shape). s.before ++ l) (append_assoc part s.after rest);
}

of_some : {X : Type 0} (x y : X) → Some x ≡ Some y → x ≡ y
of_some x y e = cc

-- ---- from a record to the whole picture

in_bars : (v : View) (rs : List Record) (acted answer : ℕ → Option ℕ) (i top : ℕ) (ends : List ℕ) (all : List Record) (p : ℕ) (r : Record)
    → slice_get all p ≡ Some r → (at : List ℕ) × Has (bars v rs acted answer i top ends all) (record_shapes v rs acted answer i top at r)
in_bars v rs acted answer i top ends [] p r e = absurd cc
in_bars v rs acted answer i top ends (x ∷ xs) zero r e = (
  ends,
  subst (λ (y : Record). Has (bars v rs acted answer i top ends (x ∷ xs)) (record_shapes v rs acted answer i top ends y)) (of_some x r e)
      (at_first (record_shapes v rs acted answer i top ends x) (bars v rs acted answer i top (record_ends v rs acted answer i ends x) xs)),
)
in_bars v rs acted answer i top ends (x ∷ xs) (suc p) r e =
    let next = record_ends v rs acted answer i ends x in
    let found : (at : List ℕ) × Has (bars v rs acted answer i top next xs) (record_shapes v rs acted answer i top at r) = in_bars v rs acted answer i top next xs p r e in
    (found.0, has_after (record_shapes v rs acted answer i top ends x) (bars v rs acted answer i top next xs) (record_shapes v rs acted answer i top found.0 r) found.1)

in_rows : (v : View) (width : ℕ) (rs : List Record) (h : List Entry) (top : ℕ) (is : List ℕ) (p i : ℕ) → slice_get is p ≡ Some i
    → (at : ℕ) × Has (rows v width rs h top is) (row v width rs h i at)
in_rows v width rs h top [] p i e = absurd cc
in_rows v width rs h top (x ∷ xs) zero i e =
    (top, subst (λ (y : ℕ). Has (rows v width rs h top (x ∷ xs)) (row v width rs h y top)) (of_some x i e) (at_first (row v width rs h x top) (rows v width rs h (top + row_height v rs h x) xs)))
in_rows v width rs h top (x ∷ xs) (suc p) i e =
    let next = top + row_height v rs h x in
    let found : (at : ℕ) × Has (rows v width rs h next xs) (row v width rs h i at) = in_rows v width rs h next xs p i e in
    (found.0, has_after (row v width rs h x top) (rows v width rs h next xs) (row v width rs h i found.0) found.1)

place : (i : ℕ) → 1 ≤ i → i ≤ 7 → (p : ℕ) × (slice_get requesters p ≡ Some i)
place zero a b = absurd (omega arith)
place (suc zero) a b = (0, refl)
place (suc (suc zero)) a b = (1, refl)
place (suc (suc (suc zero))) a b = (2, refl)
place (suc (suc (suc (suc zero)))) a b = (3, refl)
place (suc (suc (suc (suc (suc zero))))) a b = (4, refl)
place (suc (suc (suc (suc (suc (suc zero)))))) a b = (5, refl)
place (suc (suc (suc (suc (suc (suc (suc zero))))))) a b = (6, refl)
place (suc (suc (suc (suc (suc (suc (suc (suc n)))))))) a b = absurd (omega arith)

of_record : (v : View) (rs : List Record) (h : List Entry) (i k n top : ℕ) (op : Op) (bar : Bar) (ends : List ℕ) → bar_for v rs op (request_in rs h i k n) ≡ Some bar
    → record_shapes v rs (acted_in h i) (answer_in rs i) i top ends (records.Sub i k op n) ≡ bar_shapes v rs op (request_in rs h i k n) (said_of v rs op (request_in rs h i k n)) bar (top + 40 * row_for ends bar.start)
of_record v rs h i k n top op bar ends e =
    let q = request_in rs h i k n in
    ap (λ (b : Bool). cond b (placed_shapes v rs op q top ends (bar_for v rs op q)) []) (eq-eqb i i refl) ∙ ap (placed_shapes v rs op q top ends) e

in_row : (v : View) (width : ℕ) (rs : List Record) (h : List Entry) (i k n top : ℕ) (op : Op) (bar : Bar) → IsSubmitted rs i k op n → bar_for v rs op (request_in rs h i k n) ≡ Some bar
    → (at : ℕ) × Has (row v width rs h i top) (bar_shapes v rs op (request_in rs h i k n) (said_of v rs op (request_in rs h i k n)) bar at)
unfolding row
in_row v width rs h i k n top op bar submitted e =
    let all = bars v rs (acted_in h i) (answer_in rs i) i top [] rs in
    let found : (at : List ℕ) × Has all (record_shapes v rs (acted_in h i) (answer_in rs i) i top at (records.Sub i k op n)) =
    in_bars v rs (acted_in h i) (answer_in rs i) i top [] rs submitted.0 (records.Sub i k op n) submitted.1 in
    let at = top + 40 * row_for found.0 bar.start in
    let part = bar_shapes v rs op (request_in rs h i k n) (said_of v rs op (request_in rs h i k n)) bar at in
    (at, has_before all (frame_of width i top (row_ends v rs h i)) part (subst (λ (ss : List Shape). Has all ss) (of_record v rs h i k n top op bar found.0 e) found.1))

within : (all part part' : List Shape) → Has all part → Has part part' → Has all part'
within all part part' s t = record {
  before = s.before ++ t.before;
  after = t.after ++ s.after;
  is = s.is ∙ ap (λ (l : List Shape). s.before ++ (l ++ s.after)) t.is ∙ simp append_assoc;
}

pub each : EachRequestHasItsBar
each v rs h f i k n op bar low high submitted e =
    let width = width_of v in
    let known : (p : ℕ) × (slice_get requesters p ≡ Some i) = place i low high in
    let found : (at : ℕ) × Has (rows v width rs h 130 requesters) (row v width rs h i at) = in_rows v width rs h 130 requesters known.0 i known.1 in
    let bar_is : (at : ℕ) × Has (row v width rs h i found.0) (bar_shapes v rs op (request_in rs h i k n) (said_of v rs op (request_in rs h i k n)) bar at) = in_row v width rs h i k n found.0 op bar submitted e in
    let part = bar_shapes v rs op (request_in rs h i k n) (said_of v rs op (request_in rs h i k n)) bar bar_is.0 in
    let all = rows v width rs h 130 requesters in
    let last = mark_shapes v.scale rs (flaw_of f) (bottom_of v rs h) in
    let first = entries v (bottom_of v rs h) 0 (shown_entries v.scale h) in
    let in_all : Has all part = within all (row v width rs h i found.0) part found.1 bar_is.1 in (
      bar_is.0,
      has_after (heading v rs h f (signs_of (body v rs h f))) (body v rs h f) part (has_after first (all ++ last) part (has_before all last part in_all)),
    )

-- ---- bars and dots that are shown whole

abbrev make_scale : ℕ → ℕ → Scale
make_scale from span = record { from = from; span = span }

abbrev make_bar : ℕ → ℕ → Bool → Bar
make_bar start end is_open = record { start = start; end = end; is_open = is_open }

abbrev make_dot : ℕ → ℕ → Dot
make_dot x y = record { x = x; y = y }

whole_bar : (s : Scale) (n m : ℕ) (acted : Option ℕ) → n < m → s.from ≤ n → m ≤ s.from + s.span
    → bar_of s false n (Some m) acted ≡ Some (record { start = n - s.from; end = m - s.from; is_open = false })
whole_bar s n m acted before low within =
    let begins : nat_le (n - s.from) s.span ≡ true = le-leb (n - s.from) s.span (omega arith) in
    let ends : nat_lt s.from m ≡ true = lt-ltb s.from m (omega arith) in
    let end : max (min (m - s.from) (s.span + 1)) (n - s.from + 1) ≡ m - s.from = omega arith in
    ap₂ (λ (a : Bool). λ (b : Bool). cond (a && (b || nat_le s.from n)) (Some (make_bar (n - s.from) (max (min (m - s.from) (s.span + 1)) (n - s.from + 1)) false)) None) begins ends
    ∙ ap (λ (b : ℕ). Some (make_bar (n - s.from) b false)) end

answer_known : (rs : List Record) (i k m a : ℕ) (reply : Reply) → answer_in rs i k ≡ Some a → slice_get rs a ≡ Some (records.Ans i k reply m)
    → moment_of (answer_at rs (answer_in rs i k)) ≡ Some m
answer_known rs i k m a reply first found = ap (λ (o : Option ℕ). moment_of (answer_at rs o)) first ∙ ap moment_of found

pub answered : BarsGoFromSubmissionToAnswer
answered v rs h f i k n m a op reply low high posted submitted first found before from within =
    let s = v.scale in
    let bar : Bar = record { start = n - s.from; end = m - s.from; is_open = false } in
    let known : bar_for v rs op (request_in rs h i k n) ≡ Some bar =
    ap (λ (b : Bool). bar_of s b n (moment_of (answer_at rs (answer_in rs i k))) (acted_in h i k)) posted
    ∙ ap (λ (o : Option ℕ). bar_of s false n o (acted_in h i k)) (answer_known rs i k m a reply first found)
    ∙ whole_bar s n m (acted_in h i k) before from within in
    each v rs h f i k n op bar low high submitted known

whole_dot : (s : Scale) (e top : ℕ) (words : List ℕ) → s.from ≤ e → e < s.from + s.span
    → dot_shapes (dot_at s (Some (e + 1))) top words ≡ Shape.Dotted (record { x = x_at (e - s.from) + 48; y = top + 34 }) words ∷ []
whole_dot s e top words low lt =
    let after : nat_lt s.from (e + 1) ≡ true = lt-ltb s.from (e + 1) (omega arith) in
    let before : nat_le (e + 1 - s.from) s.span ≡ true = le-leb (e + 1 - s.from) s.span (omega arith) in
    let x : 120 + 96 * (e + 1 - s.from) - 48 ≡ 120 + 96 * (e - s.from) + 48 = omega arith in
    ap₂ (λ (a : Bool). λ (b : Bool). dot_shapes (cond (a && b) (Some (e + 1 - s.from)) None) top words) after before
    ∙ ap (λ (at : ℕ). Shape.Dotted (make_dot at (top + 34)) words ∷ []) x

pub dots : DotsStandAtEntries
dots s h i k e top words acted low lt = ap (λ (o : Option ℕ). dot_shapes (dot_at s (option_map (λ p. p + 1) o)) top words) acted ∙ whole_dot s e top words low lt

-- ---- which points are shown

whole_chosen : (w : Window) (count : ℕ) → w.from ≡ 0 → count ≤ w.to → count ≤ 4294967295 → chosen w count ≡ record { from = 0; span = count }
whole_chosen w count first to few =
    let from : min w.from (min w.to count) ≡ 0 = omega (arith, first) in
    let span : min (min w.to count - min w.from (min w.to count)) 4294967295 ≡ count = omega (arith, first, to, few) in
    ap₂ (λ (a : ℕ). λ (b : ℕ). make_scale a b) from span

not_cut : (b c : Bool) → (b ≡ true → c ≡ true → ⊥) → (b && c) ≡ false
not_cut true true f = absurd (f refl refl)
not_cut true false f = refl
not_cut false c f = refl

split : (b c : Bool) → (b && c) ≡ true → (b ≡ true) × (c ≡ true)
split true true e = (refl, refl)
split true false e = cc
split false c e = cc

is_whole : (w : Window) (count : ℕ) → (count ≤ 60) ⊎ (w.to < 18446744073709551615) → is_cut w count ≡ false
is_whole w count (inl few) = not_cut (is_open w) (nat_lt 60 count) (λ o c. let more : 60 < count = ltb-true 60 count c in omega (arith, few, more))
is_whole w count (inr to) =
    not_cut (is_open w) (nat_lt 60 count) (λ o c. let last : w.to ≡ 18446744073709551615 = eqb-true w.to 18446744073709551615 (split (w.from == 0) (w.to == 18446744073709551615) o).1 in omega (arith, to, last))

pub whole : WholeHistoriesAreShown
whole w point count s =
    ap (λ (b : Bool). cond b (around point count) (chosen w count)) (is_whole w count s.chosen) ∙ whole_chosen w count s.from s.to s.few

few_by : (b : Bool) (w : Window) (point count : ℕ) → nat_lt 60 count ≡ b → (cond b (around point count) (chosen w count)).span ≤ 60
few_by true w point count e = omega arith
few_by false w point count e =
    let few : count ≤ 60 = ltb-false 60 count e in
    omega (arith, few)

pub few : FewPointsAreShown
few w point count o =
    subst (λ (b : Bool). (cond (b && nat_lt 60 count) (around point count) (chosen w count)).span ≤ 60) (sym o) (few_by (nat_lt 60 count) w point count refl)

flaws_by : (b : Bool) (w : Window) (point count : ℕ) → nat_lt 60 count ≡ b → w.from ≡ 0 → w.to ≡ 18446744073709551615 → point ≤ count → count < 18446744073709551616
    → IsWithin (cond b (around point count) (chosen w count)) point
flaws_by true w point count e from to at small =
    let more : 60 < count = ltb-true 60 count e in
    record { from = omega arith; to = omega (arith, more, at) }
flaws_by false w point count e from to at small =
    let few : count ≤ 60 = ltb-false 60 count e in
    record { from = omega (arith, from); to = omega (arith, from, to, few, at, small) }

pub flaws : FlawsAreShown
flaws w rs flaw count o at small =
    let both : (w.from ≡ 0) × (w.to ≡ 18446744073709551615) =
    (eqb-true w.from 0 (split (w.from == 0) (w.to == 18446744073709551615) o).0, eqb-true w.to 18446744073709551615 (split (w.from == 0) (w.to == 18446744073709551615) o).1) in
    let point = flaw_point rs flaw in
    subst (λ (b : Bool). IsWithin (cond (b && nat_lt 60 count) (around point count) (chosen w count)) point) (sym o) (flaws_by (nat_lt 60 count) w point count refl both.0 both.1 at small)
