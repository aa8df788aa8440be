-- Shapes that are added one after the other.
use Rattle.std.proofs.Common.{◌≡◌, ◌∙◌, ◌+◌, ◌*◌, ◌∷◌, ◌++◌, ◌<◌, ◌≤◌, List, ℕ, [], zero, suc, ap, sym, subst, refl, drop, length, get_or, append_assoc, drop-cons, arith}
use Rattle.std.specs.Prelude.{Option, Some}
use Rattle.std.proofs.lemmas.Grind.{flat_map-append}
use Rattle.std.proofs.lemmas.List.{append-nil}
use Rattle.svg_text.specs.Shapes.{Shape, shape_text, shapes_text}
use Rattle.chart_rows.specs.declared.row.Row.{Row}
use Rattle.chart_rows.specs.declared.row.Open.{Open}
use Rattle.chart_rows.specs.declared.layout.Frame.{Frame}
use Rattle.chart_rows.specs.Layout.{top_of}
use Rattle.chart_page.specs.Look.{names, requester_column, requester_columns, requester_name, requester_names, stripes}
use Rattle.chart_marks.specs.Marks.{open_stroke}
use Rattle.chart_page.specs.Shapes.{each, band, band_at, bands, open_strokes}

text-append : (a b : List Shape) → shapes_text (a ++ b) ≡ shapes_text a ++ shapes_text b
unfolding shapes_text
text-append a b = flat_map-append shape_text a b

pub text-none : (out : List ℕ) → out ≡ out ++ shapes_text []
unfolding shapes_text
text-none out = sym (append-nil out)

-- one part, and then another
pub both : (o p q : List ℕ) (a b : List Shape) → p ≡ o ++ shapes_text a → q ≡ p ++ shapes_text b → q ≡ o ++ shapes_text (a ++ b)
both o p q a b e f =
    f ∙ ap (λ (t : List ℕ). t ++ shapes_text b) e ∙ append_assoc o (shapes_text a) (shapes_text b) ∙ ap (λ (t : List ℕ). o ++ t) (sym (text-append a b))

-- a first shape, and then others
pub first : (o p q : List ℕ) (s : Shape) (b : List Shape) → p ≡ o ++ shape_text s → q ≡ p ++ shapes_text b → q ≡ o ++ shapes_text (s ∷ b)
unfolding shapes_text
first o p q s b e f = f ∙ ap (λ (t : List ℕ). t ++ shapes_text b) e ∙ append_assoc o (shape_text s) (shapes_text b)

-- one part of what a loop adds
part : (o p : List ℕ) (a rest : List Shape) → p ≡ o ++ shapes_text a → p ++ shapes_text rest ≡ o ++ shapes_text (a ++ rest)
part o p a rest e = ap (λ (t : List ℕ). t ++ shapes_text rest) e ∙ append_assoc o (shapes_text a) (shapes_text rest) ∙ ap (λ (t : List ℕ). o ++ t) (sym (text-append a rest))

cut : {X : Type 0} (xs : List X) (i : ℕ) (x : X) → i < length xs → x ≡ get_or xs i x → drop i xs ≡ x ∷ drop (i + 1) xs
cut xs i x lt is =
    let next : i + 1 ≡ suc i = omega arith in
    rw next (drop-cons xs i x lt ∙ ap (λ y. y ∷ drop (suc i) xs) (sym is))

past : {X : Type 0} (xs : List X) (i : ℕ) → length xs ≤ i → drop i xs ≡ []
past [] zero le = refl
past [] (suc i) le = refl
past (x ∷ xs) zero le = absurd (omega arith)
past (x ∷ xs) (suc i) le = past xs i (omega arith)

-- ---- rows

pub each-next : (f : ℕ → Row → List Shape) (all : List Row) (i row : ℕ) (r : Row) (o p : List ℕ) → i < length all → r ≡ get_or all i r → p ≡ o ++ shapes_text (f row r)
    → p ++ shapes_text (each f (row + 1) (drop (i + 1) all)) ≡ o ++ shapes_text (each f row (drop i all))
each-next f all i row r o p lt is e =
    part o p (f row r) (each f (row + 1) (drop (i + 1) all)) e ∙ ap (λ (rs : List Row). o ++ shapes_text (each f row rs)) (sym (cut all i r lt is))

pub each-past : (f : ℕ → Row → List Shape) (all : List Row) (i row : ℕ) (o : List ℕ) → length all ≤ i → o ≡ o ++ shapes_text (each f row (drop i all))
each-past f all i row o le = text-none o ∙ ap (λ (rs : List Row). o ++ shapes_text (each f row rs)) (sym (past all i le))

pub bands-next : (n : Frame) (all : List Row) (i row : ℕ) (above : Option ℕ) (r : Row) (o p : List ℕ) → i < length all → r ≡ get_or all i r → p ≡ o ++ shapes_text (band (band_at n above row r) r)
    → p ++ shapes_text (bands n (Some r.line) (row + 1) (drop (i + 1) all)) ≡ o ++ shapes_text (bands n above row (drop i all))
bands-next n all i row above r o p lt is e =
    part o p (band (band_at n above row r) r) (bands n (Some r.line) (row + 1) (drop (i + 1) all)) e
    ∙ ap (λ (rs : List Row). o ++ shapes_text (bands n above row rs)) (sym (cut all i r lt is))

pub bands-past : (n : Frame) (all : List Row) (i row : ℕ) (above : Option ℕ) (o : List ℕ) → length all ≤ i → o ≡ o ++ shapes_text (bands n above row (drop i all))
bands-past n all i row above o le = text-none o ∙ ap (λ (rs : List Row). o ++ shapes_text (bands n above row rs)) (sym (past all i le))

-- ---- what isn't seen to arrive

pub open-next : (n : Frame) (all : List Open) (i : ℕ) (r : Open) (o p : List ℕ) → i < length all → r ≡ get_or all i r → p ≡ o ++ shape_text (open_stroke n r)
    → p ++ shapes_text (open_strokes n (drop (i + 1) all)) ≡ o ++ shapes_text (open_strokes n (drop i all))
open-next n all i r o p lt is e =
    first o p (p ++ shapes_text (open_strokes n (drop (i + 1) all))) (open_stroke n r) (open_strokes n (drop (i + 1) all)) e refl
    ∙ ap (λ (os : List Open). o ++ shapes_text (open_strokes n os)) (sym (cut all i r lt is))

pub open-past : (n : Frame) (all : List Open) (i : ℕ) (o : List ℕ) → length all ≤ i → o ≡ o ++ shapes_text (open_strokes n (drop i all))
open-past n all i o le = text-none o ∙ ap (λ (os : List Open). o ++ shapes_text (open_strokes n os)) (sym (past all i le))

-- ---- requesters

pub columns-next : (n : Frame) (k bottom : ℕ) (o p q : List ℕ) → p ≡ o ++ shapes_text (requester_columns n k bottom) → q ≡ p ++ shapes_text (requester_column n (k + 1) bottom)
    → q ≡ o ++ shapes_text (requester_columns n (k + 1) bottom)
columns-next n k bottom o p q e f =
    let next : k + 1 ≡ suc k = omega arith in
    subst (λ (j : ℕ). q ≡ o ++ shapes_text (requester_columns n j bottom)) (sym next) (both o p q (requester_columns n k bottom) (requester_column n (k + 1) bottom) e f)

-- ---- names in stripes

pub names-next : (n : Frame) (k y : ℕ) (o p q : List ℕ) → p ≡ o ++ shapes_text (requester_names n k y) → q ≡ p ++ shapes_text (requester_name n (k + 1) y)
    → q ≡ o ++ shapes_text (requester_names n (k + 1) y)
names-next n k y o p q e f =
    let next : k + 1 ≡ suc k = omega arith in
    subst (λ (j : ℕ). q ≡ o ++ shapes_text (requester_names n j y)) (sym next)
    (both o p q (requester_names n k y) (requester_name n (k + 1) y) e f)

pub stripes-next : (n : Frame) (k : ℕ) (o p q : List ℕ) → p ≡ o ++ shapes_text (stripes n k) → q ≡ p ++ shapes_text (names n (top_of (40 * (k + 1))))
    → q ≡ o ++ shapes_text (stripes n (k + 1))
stripes-next n k o p q e f =
    let next : k + 1 ≡ suc k = omega arith in
    subst (λ (j : ℕ). q ≡ o ++ shapes_text (stripes n j)) (sym next) (both o p q (stripes n k) (names n (top_of (40 * (k + 1)))) e f)
