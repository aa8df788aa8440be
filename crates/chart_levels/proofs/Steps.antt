-- Shapes that are added one after the other.
use Rattle.std.specs.Prelude.{Option}
use Rattle.std.proofs.Common.{◌≡◌, ◌∙◌, ◌+◌, ◌++◌, ◌<◌, ◌≤◌, List, ℕ, [], ◌∷◌, zero, suc, ap, sym, refl, drop, length, get_or, append_assoc, drop-cons, arith}
use Rattle.std.proofs.lemmas.Grind.{flat_map-append}
use Rattle.std.proofs.lemmas.List.{append-nil}
use Rattle.svg_text.specs.Shapes.{Shape, shape_text, shapes_text, page_text}
use Rattle.chart_rows.specs.Layout.{width_of, levels_left, top_of}
use Rattle.chart_rows.specs.PageView.{PageView}
use Rattle.chart_levels.specs.declared.step_line.Step.{Step}
use Rattle.chart_levels.specs.declared.drawing.Strip.{Strip}
use Rattle.chart_levels.specs.StepLineView.{StepLineView}
use Rattle.chart_levels.specs.Strips.{first_of, step_shapes, steps_shapes, stripe, stripes}
use Rattle.chart_levels.specs.Pages.{reach_of, line_shapes, beside, levelled_page}

pub text-append : (a b : List Shape) → shapes_text (a ++ b) ≡ shapes_text a ++ shapes_text b
unfolding shapes_text
text-append a b = flat_map-append shape_text a b

pub text-none : (out : List ℕ) → out ≡ out ++ shapes_text []
unfolding shapes_text
text-none out = sym (append-nil out)

-- one part, and then another
pub both : (o p q : List ℕ) (a b : List Shape) → p ≡ o ++ shapes_text a → q ≡ p ++ shapes_text b → q ≡ o ++ shapes_text (a ++ b)
both o p q a b e f =
    f ∙ ap (λ (t : List ℕ). t ++ shapes_text b) e ∙ append_assoc o (shapes_text a) (shapes_text b) ∙ ap (λ (t : List ℕ). o ++ t) (sym (text-append a b))

-- one part of what a loop adds
part : (o p : List ℕ) (a rest : List Shape) → p ≡ o ++ shapes_text a → p ++ shapes_text rest ≡ o ++ shapes_text (a ++ rest)
part o p a rest e = ap (λ (t : List ℕ). t ++ shapes_text rest) e ∙ append_assoc o (shapes_text a) (shapes_text rest) ∙ ap (λ (t : List ℕ). o ++ t) (sym (text-append a rest))

cut : {X : Type 0} (xs : List X) (i : ℕ) (x : X) → i < length xs → x ≡ get_or xs i x → drop i xs ≡ x ∷ drop (i + 1) xs
cut xs i x lt is =
    let next : i + 1 ≡ suc i = omega arith in
    rw next (drop-cons xs i x lt ∙ ap (λ y. y ∷ drop (suc i) xs) (sym is))

past : {X : Type 0} (xs : List X) (i : ℕ) → length xs ≤ i → drop i xs ≡ []
past [] zero le = refl
past [] (suc i) le = refl
past (x ∷ xs) zero le = absurd (omega arith)
past (x ∷ xs) (suc i) le = past xs i (omega arith)

pub step-next : (t : Strip) (all : List Step) (i : ℕ) (s : Step) (next : Option Step) (o p : List ℕ) → i < length all → s ≡ get_or all i s → next ≡ first_of (drop (i + 1) all) → p ≡ o ++ shapes_text (step_shapes t s next)
    → p ++ shapes_text (steps_shapes t (drop (i + 1) all)) ≡ o ++ shapes_text (steps_shapes t (drop i all))
step-next t all i s next o p lt is first e =
    part o p (step_shapes t s (first_of (drop (i + 1) all))) (steps_shapes t (drop (i + 1) all)) (e ∙ ap (λ (n : Option Step). o ++ shapes_text (step_shapes t s n)) first)
    ∙ ap (λ (ss : List Step). o ++ shapes_text (steps_shapes t ss)) (sym (cut all i s lt is))

pub step-past : (t : Strip) (all : List Step) (i : ℕ) (o : List ℕ) → length all ≤ i → o ≡ o ++ shapes_text (steps_shapes t (drop i all))
step-past t all i o le = text-none o ∙ ap (λ (ss : List Step). o ++ shapes_text (steps_shapes t ss)) (sym (past all i le))

pub stripe-next : (t : Strip) (k : ℕ) (o p q : List ℕ) → p ≡ o ++ shapes_text (stripes t k) → q ≡ p ++ shapes_text (stripe t k) → q ≡ o ++ shapes_text (stripes t (k + 1))
stripe-next t k o p q e f =
    let next : k + 1 ≡ suc k = omega arith in
    rw next (both o p q (stripes t k) (stripe t k) e f)

pub line-next : (left rows : ℕ) (all : List StepLineView) (i : ℕ) (l : StepLineView) (o p : List ℕ) → i < length all → l ≡ get_or all i l → p ≡ o ++ shapes_text (line_shapes (left + reach_of i) rows l)
    → p ++ shapes_text (beside left rows (i + 1) (drop (i + 1) all)) ≡ o ++ shapes_text (beside left rows i (drop i all))
line-next left rows all i l o p lt is e =
    part o p (line_shapes (left + reach_of i) rows l) (beside left rows (i + 1) (drop (i + 1) all)) e
    ∙ ap (λ (ls : List StepLineView). o ++ shapes_text (beside left rows i ls)) (sym (cut all i l lt is))

pub line-past : (left rows : ℕ) (all : List StepLineView) (i : ℕ) (o : List ℕ) → length all ≤ i → o ≡ o ++ shapes_text (beside left rows i (drop i all))
line-past left rows all i o le = text-none o ∙ ap (λ (ls : List StepLineView). o ++ shapes_text (beside left rows i ls)) (sym (past all i le))

-- shapes, and step lines after them
pub then-beside : (o p : List ℕ) (ss b : List Shape) → o ≡ shapes_text ss → p ≡ o ++ shapes_text b → p ≡ shapes_text (ss ++ b)
then-beside o p ss b e f = f ∙ ap (λ (t : List ℕ). t ++ shapes_text b) e ∙ sym (text-append ss b)

-- the page, at its own width and height
pub levelled : (p : PageView) (lines : List StepLineView) (ss : List Shape) (left rows width top : ℕ) → left ≡ levels_left p.letters → rows ≡ length p.rows → width ≡ width_of p.frame → top ≡ top_of rows
    → page_text width (top + 30) (ss ++ beside left rows 0 lines) ≡ levelled_page p lines ss
levelled p lines ss left rows width top e f g h =
    ap (λ (n : ℕ). page_text n (top + 30) (ss ++ beside left rows 0 lines)) g
    ∙ ap (λ (n : ℕ). page_text (width_of p.frame) (n + 30) (ss ++ beside left rows 0 lines)) h
    ∙ ap (λ (n : ℕ). page_text (width_of p.frame) (top_of rows + 30) (ss ++ beside n rows 0 lines)) e
    ∙ ap (λ (n : ℕ). page_text (width_of p.frame) (top_of n + 30) (ss ++ beside (levels_left p.letters) n 0 lines)) f
