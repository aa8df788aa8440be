-- Shapes that are added one after the other.
use Rattle.std.proofs.Common.{◌≡◌, ◌∙◌, ◌+◌, ◌∷◌, ◌++◌, ◌<◌, ◌≤◌, List, ℕ, [], zero, suc, Option, ap, sym, refl, drop, length, get_or, append_assoc, drop-cons, arith, Bool, false, cond}
use Rattle.std.specs.Prelude.{◌==◌}
use Rattle.std.proofs.lemmas.Grind.{flat_map-append}
use Rattle.std.proofs.lemmas.List.{append-nil}
use Rattle.seq_memory.specs.Entries.{Entry}
use Rattle.history_words.specs.Records.{Record}
use Rattle.svg_text.specs.Shapes.{Shape, shape_text, shapes_text}
use Rattle.history_bars.specs.declared.marks.View.{View}
use Rattle.history_bars.specs.Bars.{record_shapes, record_ends, bars, ends_of, frame, frame_of, height_of, row_ends, row, row_height, rows, rows_bottom}
use Rattle.history_bars.specs.Layout.{acted_in, answer_in}

pub text-append : (a b : List Shape) → shapes_text (a ++ b) ≡ shapes_text a ++ shapes_text b
unfolding shapes_text
text-append a b = flat_map-append shape_text a b

pub text-none : (out : List ℕ) → out ≡ out ++ shapes_text []
unfolding shapes_text
text-none out = sym (append-nil out)

-- one part, and then another
pub both : (o p q : List ℕ) (a b : List Shape) → p ≡ o ++ shapes_text a → q ≡ p ++ shapes_text b → q ≡ o ++ shapes_text (a ++ b)
both o p q a b e f =
    f ∙ ap (λ (t : List ℕ). t ++ shapes_text b) e ∙ append_assoc o (shapes_text a) (shapes_text b) ∙ ap (λ (t : List ℕ). o ++ t) (sym (text-append a b))

-- one part of what a loop adds
pub part : (o p : List ℕ) (a rest : List Shape) → p ≡ o ++ shapes_text a → p ++ shapes_text rest ≡ o ++ shapes_text (a ++ rest)
part o p a rest e = ap (λ (t : List ℕ). t ++ shapes_text rest) e ∙ append_assoc o (shapes_text a) (shapes_text rest) ∙ ap (λ (t : List ℕ). o ++ t) (sym (text-append a rest))

pub cut : {X : Type 0} (xs : List X) (i : ℕ) (x : X) → i < length xs → x ≡ get_or xs i x → drop i xs ≡ x ∷ drop (i + 1) xs
cut xs i x lt is =
    let next : i + 1 ≡ suc i = omega arith in
    rw next (drop-cons xs i x lt ∙ ap (λ y. y ∷ drop (suc i) xs) (sym is))

-- the same of numbers
pub cut_number : (xs : List ℕ) (i x : ℕ) → i < length xs → x ≡ get_or xs i 0 → drop i xs ≡ x ∷ drop (i + 1) xs
cut_number xs i x lt is =
    let next : i + 1 ≡ suc i = omega arith in
    rw next (drop-cons xs i 0 lt ∙ ap (λ y. y ∷ drop (suc i) xs) (sym is))

pub past : {X : Type 0} (xs : List X) (i : ℕ) → length xs ≤ i → drop i xs ≡ []
past [] zero le = refl
past [] (suc i) le = refl
past (x ∷ xs) zero le = absurd (omega arith)
past (x ∷ xs) (suc i) le = past xs i (omega arith)

-- ---- bars

pub bars-next : (v : View) (rs : List Record) (acted answer : ℕ → Option ℕ) (i top : ℕ) (ends ends' : List ℕ) (all : List Record) (a : ℕ) (r : Record) (o p : List ℕ)
    → a < length all → r ≡ get_or all a r → p ≡ o ++ shapes_text (record_shapes v rs acted answer i top ends r) → ends' ≡ record_ends v rs acted answer i ends r
    → p ++ shapes_text (bars v rs acted answer i top ends' (drop (a + 1) all)) ≡ o ++ shapes_text (bars v rs acted answer i top ends (drop a all))
bars-next v rs acted answer i top ends ends' all a r o p lt is e f =
    ap (λ (x : List ℕ). p ++ shapes_text (bars v rs acted answer i top x (drop (a + 1) all))) f
    ∙ part o p (record_shapes v rs acted answer i top ends r) (bars v rs acted answer i top (record_ends v rs acted answer i ends r) (drop (a + 1) all)) e
    ∙ ap (λ (x : List Record). o ++ shapes_text (bars v rs acted answer i top ends x)) (sym (cut all a r lt is))

pub ends-next : (v : View) (rs : List Record) (acted answer : ℕ → Option ℕ) (i : ℕ) (ends ends' : List ℕ) (all : List Record) (a : ℕ) (r : Record)
    → a < length all → r ≡ get_or all a r → ends' ≡ record_ends v rs acted answer i ends r
    → ends_of v rs acted answer i ends' (drop (a + 1) all) ≡ ends_of v rs acted answer i ends (drop a all)
ends-next v rs acted answer i ends ends' all a r lt is f =
    ap (λ (x : List ℕ). ends_of v rs acted answer i x (drop (a + 1) all)) f ∙ ap (λ (x : List Record). ends_of v rs acted answer i ends x) (sym (cut all a r lt is))

pub bars-past : (v : View) (rs : List Record) (acted answer : ℕ → Option ℕ) (i top : ℕ) (ends : List ℕ) (all : List Record) (a : ℕ) (o : List ℕ)
    → length all ≤ a → o ≡ o ++ shapes_text (bars v rs acted answer i top ends (drop a all))
bars-past v rs acted answer i top ends all a o le = text-none o ∙ ap (λ (x : List Record). o ++ shapes_text (bars v rs acted answer i top ends x)) (sym (past all a le))

pub ends-past : (v : View) (rs : List Record) (acted answer : ℕ → Option ℕ) (i : ℕ) (ends : List ℕ) (all : List Record) (a : ℕ)
    → length all ≤ a → ends ≡ ends_of v rs acted answer i ends (drop a all)
ends-past v rs acted answer i ends all a le = ap (λ (x : List Record). ends_of v rs acted answer i ends x) (sym (past all a le))

-- ---- rows

pub rows-next : (v : View) (width : ℕ) (rs : List Record) (h : List Entry) (top height : ℕ) (all : List ℕ) (a i : ℕ) (o p : List ℕ)
    → a < length all → i ≡ get_or all a 0 → p ≡ o ++ shapes_text (row v width rs h i top) → height ≡ row_height v rs h i
    → p ++ shapes_text (rows v width rs h (top + height) (drop (a + 1) all)) ≡ o ++ shapes_text (rows v width rs h top (drop a all))
rows-next v width rs h top height all a i o p lt is e f =
    ap (λ (x : ℕ). p ++ shapes_text (rows v width rs h (top + x) (drop (a + 1) all))) f
    ∙ part o p (row v width rs h i top) (rows v width rs h (top + row_height v rs h i) (drop (a + 1) all)) e
    ∙ ap (λ (x : List ℕ). o ++ shapes_text (rows v width rs h top x)) (sym (cut_number all a i lt is))

pub bottom-next : (v : View) (rs : List Record) (h : List Entry) (top height : ℕ) (all : List ℕ) (a i : ℕ)
    → a < length all → i ≡ get_or all a 0 → height ≡ row_height v rs h i
    → rows_bottom v rs h (top + height) (drop (a + 1) all) ≡ rows_bottom v rs h top (drop a all)
bottom-next v rs h top height all a i lt is f =
    ap (λ (x : ℕ). rows_bottom v rs h (top + x) (drop (a + 1) all)) f ∙ ap (λ (x : List ℕ). rows_bottom v rs h top x) (sym (cut_number all a i lt is))

pub rows-past : (v : View) (width : ℕ) (rs : List Record) (h : List Entry) (top : ℕ) (all : List ℕ) (a : ℕ) (o : List ℕ)
    → length all ≤ a → o ≡ o ++ shapes_text (rows v width rs h top (drop a all))
rows-past v width rs h top all a o le = text-none o ∙ ap (λ (x : List ℕ). o ++ shapes_text (rows v width rs h top x)) (sym (past all a le))

pub bottom-past : (v : View) (rs : List Record) (h : List Entry) (top : ℕ) (all : List ℕ) (a : ℕ) → length all ≤ a → top ≡ rows_bottom v rs h top (drop a all)
bottom-past v rs h top all a le = ap (λ (x : List ℕ). rows_bottom v rs h top x) (sym (past all a le))

-- ---- a row

pub frame-by : (width i top height : ℕ) (ends o p : List ℕ) → (length ends == 0) ≡ false → height ≡ height_of ends → p ≡ o ++ shapes_text (frame width i top height)
    → p ≡ o ++ shapes_text (frame_of width i top ends)
frame-by width i top height ends o p some e f =
    f ∙ ap (λ (h : ℕ). o ++ shapes_text (frame width i top h)) e ∙ ap (λ (b : Bool). o ++ shapes_text (cond b [] (frame width i top (height_of ends)))) (sym some)

ends-by : (v : View) (rs : List Record) (h : List Entry) (i : ℕ) (acted answer : ℕ → Option ℕ) (none ends : List ℕ)
    → acted ≡ acted_in h i → answer ≡ answer_in rs i → none ≡ [] → ends ≡ ends_of v rs acted answer i none rs → ends ≡ row_ends v rs h i
ends-by v rs h i acted answer none ends a b n f =
    f ∙ ap (λ (x : ℕ → Option ℕ). ends_of v rs x answer i none rs) a
    ∙ ap (λ (x : ℕ → Option ℕ). ends_of v rs (acted_in h i) x i none rs) b
    ∙ ap (λ (x : List ℕ). ends_of v rs (acted_in h i) (answer_in rs i) i x rs) n

pub row-by : (v : View) (width : ℕ) (rs : List Record) (h : List Entry) (i top : ℕ) (acted answer : ℕ → Option ℕ) (none ends : List ℕ) (o p q : List ℕ)
    → acted ≡ acted_in h i → answer ≡ answer_in rs i → none ≡ []
    → p ≡ o ++ shapes_text (bars v rs acted answer i top none rs) → ends ≡ ends_of v rs acted answer i none rs → q ≡ p ++ shapes_text (frame_of width i top ends)
    → q ≡ o ++ shapes_text (row v width rs h i top)
unfolding row
row-by v width rs h i top acted answer none ends o p q a b n e f g =
    let bars_are : p ≡ o ++ shapes_text (bars v rs (acted_in h i) (answer_in rs i) i top [] rs) =
    e ∙ ap (λ (x : ℕ → Option ℕ). o ++ shapes_text (bars v rs x answer i top none rs)) a
    ∙ ap (λ (x : ℕ → Option ℕ). o ++ shapes_text (bars v rs (acted_in h i) x i top none rs)) b
    ∙ ap (λ (x : List ℕ). o ++ shapes_text (bars v rs (acted_in h i) (answer_in rs i) i top x rs)) n in
    both o p q (bars v rs (acted_in h i) (answer_in rs i) i top [] rs) (frame_of width i top (row_ends v rs h i)) bars_are
    (g ∙ ap (λ (x : List ℕ). p ++ shapes_text (frame_of width i top x)) (ends-by v rs h i acted answer none ends a b n f))

pub height-by : (v : View) (rs : List Record) (h : List Entry) (i : ℕ) (acted answer : ℕ → Option ℕ) (none ends : List ℕ) (height : ℕ)
    → acted ≡ acted_in h i → answer ≡ answer_in rs i → none ≡ [] → ends ≡ ends_of v rs acted answer i none rs → height ≡ height_of ends
    → height ≡ row_height v rs h i
unfolding row_height
height-by v rs h i acted answer none ends height a b n f g = g ∙ ap height_of (ends-by v rs h i acted answer none ends a b n f)
