-- Shapes that are added one after the other.
use Rattle.std.proofs.Common.{◌≡◌, ◌∙◌, ◌+◌, ◌∷◌, ◌++◌, ◌<◌, ◌≤◌, List, ℕ, [], zero, suc, Option, Some, ap, sym, refl, drop, length, get_or, append_assoc, drop-cons, arith, Bool, true, false}
use Rattle.std.specs.Prelude.{◌||◌}
use Rattle.std.specs.List.{list_any}
use Rattle.std.proofs.lemmas.Grind.{flat_map-append}
use Rattle.std.proofs.lemmas.List.{append-nil}
use Rattle.svg_text.specs.Shapes.{Shape, shape_text, shapes_text}
use Rattle.search_picture.specs.declared.scene.PictureRequest.{PictureRequest}
use Rattle.search_picture.specs.declared.scene.Arrow.{Arrow}
use Rattle.search_picture.specs.declared.scene.Line.{Line}
use Rattle.search_picture.specs.Picture.{column_shapes, columns, frame_behind, frames, request_shapes, rows, arrow_shapes, arrows, why_shapes, whys, line_shapes, told}

text-append : (a b : List Shape) → shapes_text (a ++ b) ≡ shapes_text a ++ shapes_text b
unfolding shapes_text
text-append a b = flat_map-append shape_text a b

pub text-none : (out : List ℕ) → out ++ shapes_text [] ≡ out
unfolding shapes_text
text-none out = append-nil out

-- one part, and then another
pub both : (o p q : List ℕ) (a b : List Shape) → p ≡ o ++ shapes_text a → q ≡ p ++ shapes_text b → q ≡ o ++ shapes_text (a ++ b)
both o p q a b e f =
    f ∙ ap (λ (t : List ℕ). t ++ shapes_text b) e ∙ append_assoc o (shapes_text a) (shapes_text b) ∙ ap (λ (t : List ℕ). o ++ t) (sym (text-append a b))

-- one part of what a loop adds
part : (o p : List ℕ) (a rest : List Shape) → p ≡ o ++ shapes_text a → p ++ shapes_text rest ≡ o ++ shapes_text (a ++ rest)
part o p a rest e = ap (λ (t : List ℕ). t ++ shapes_text rest) e ∙ append_assoc o (shapes_text a) (shapes_text rest) ∙ ap (λ (t : List ℕ). o ++ t) (sym (text-append a rest))

cut : {X : Type 0} (xs : List X) (i : ℕ) (x : X) → i < length xs → x ≡ get_or xs i x → drop i xs ≡ x ∷ drop (i + 1) xs
cut xs i x lt is =
    let next : i + 1 ≡ suc i = omega arith in
    rw next (drop-cons xs i x lt ∙ ap (λ y. y ∷ drop (suc i) xs) (sym is))

cut_number : (xs : List ℕ) (i x : ℕ) → i < length xs → x ≡ get_or xs i 0 → drop i xs ≡ x ∷ drop (i + 1) xs
cut_number xs i x lt is =
    let next : i + 1 ≡ suc i = omega arith in
    rw next (drop-cons xs i 0 lt ∙ ap (λ y. y ∷ drop (suc i) xs) (sym is))

pub past : {X : Type 0} (xs : List X) (i : ℕ) → length xs ≤ i → drop i xs ≡ []
past [] zero le = refl
past [] (suc i) le = refl
past (x ∷ xs) zero le = absurd (omega arith)
past (x ∷ xs) (suc i) le = past xs i (omega arith)

-- ---- a step of each loop

pub columns-next : (bottom at line : ℕ) (all : List ℕ) (i : ℕ) (o p : List ℕ) → i < length all → line ≡ get_or all i 0 → p ≡ o ++ shapes_text (column_shapes at line bottom)
    → p ++ shapes_text (columns bottom (at + 1) (drop (i + 1) all)) ≡ o ++ shapes_text (columns bottom at (drop i all))
columns-next bottom at line all i o p lt is e =
    part o p (column_shapes at line bottom) (columns bottom (at + 1) (drop (i + 1) all)) e
    ∙ ap (λ (ls : List ℕ). o ++ shapes_text (columns bottom at ls)) (sym (cut_number all i line lt is))

pub frames-next : (width : ℕ) (before : Option ℕ) (row : ℕ) (r : PictureRequest) (all : List PictureRequest) (i : ℕ) (o p : List ℕ) → i < length all → r ≡ get_or all i r
    → p ≡ o ++ shapes_text (frame_behind width before row r.requester)
    → p ++ shapes_text (frames width (Some r.requester) (row + 1) (drop (i + 1) all)) ≡ o ++ shapes_text (frames width before row (drop i all))
frames-next width before row r all i o p lt is e =
    part o p (frame_behind width before row r.requester) (frames width (Some r.requester) (row + 1) (drop (i + 1) all)) e
    ∙ ap (λ (rs : List PictureRequest). o ++ shapes_text (frames width before row rs)) (sym (cut all i r lt is))

pub rows-next : (row : ℕ) (r : PictureRequest) (all : List PictureRequest) (i : ℕ) (o p : List ℕ) → i < length all → r ≡ get_or all i r → p ≡ o ++ shapes_text (request_shapes row r)
    → p ++ shapes_text (rows (row + 1) (drop (i + 1) all)) ≡ o ++ shapes_text (rows row (drop i all))
rows-next row r all i o p lt is e =
    part o p (request_shapes row r) (rows (row + 1) (drop (i + 1) all)) e ∙ ap (λ (rs : List PictureRequest). o ++ shapes_text (rows row rs)) (sym (cut all i r lt is))

pub arrows-next : (rs : List PictureRequest) (a : Arrow) (all : List Arrow) (i : ℕ) (o p : List ℕ) → i < length all → a ≡ get_or all i a → p ≡ o ++ shapes_text (arrow_shapes rs a)
    → p ++ shapes_text (arrows rs (drop (i + 1) all)) ≡ o ++ shapes_text (arrows rs (drop i all))
arrows-next rs a all i o p lt is e =
    part o p (arrow_shapes rs a) (arrows rs (drop (i + 1) all)) e ∙ ap (λ (more : List Arrow). o ++ shapes_text (arrows rs more)) (sym (cut all i a lt is))

pub whys-next : (rs : List PictureRequest) (a : Arrow) (all : List Arrow) (i : ℕ) (o p : List ℕ) → i < length all → a ≡ get_or all i a → p ≡ o ++ shapes_text (why_shapes rs a)
    → p ++ shapes_text (whys rs (drop (i + 1) all)) ≡ o ++ shapes_text (whys rs (drop i all))
whys-next rs a all i o p lt is e =
    part o p (why_shapes rs a) (whys rs (drop (i + 1) all)) e ∙ ap (λ (more : List Arrow). o ++ shapes_text (whys rs more)) (sym (cut all i a lt is))

pub told-next : (y : ℕ) (l : Line) (all : List Line) (i : ℕ) (o p : List ℕ) → i < length all → l ≡ get_or all i l → p ≡ o ++ shapes_text (line_shapes y l)
    → p ++ shapes_text (told (y + 16) (drop (i + 1) all)) ≡ o ++ shapes_text (told y (drop i all))
told-next y l all i o p lt is e =
    part o p (line_shapes y l) (told (y + 16) (drop (i + 1) all)) e ∙ ap (λ (ls : List Line). o ++ shapes_text (told y ls)) (sym (cut all i l lt is))

-- ---- the end of each loop

ended : (o p : List ℕ) (ss : List Shape) → ss ≡ [] → p ++ shapes_text ss ≡ o → p ≡ o
ended o p ss none e = sym (text-none p) ∙ ap (λ (l : List Shape). p ++ shapes_text l) (sym none) ∙ e

pub columns-past : (bottom at : ℕ) (all : List ℕ) (i : ℕ) (o p : List ℕ) → length all ≤ i → p ++ shapes_text (columns bottom at (drop i all)) ≡ o → p ≡ o
columns-past bottom at all i o p le e = ended o p (columns bottom at (drop i all)) (ap (columns bottom at) (past all i le)) e

pub frames-past : (width : ℕ) (before : Option ℕ) (row : ℕ) (all : List PictureRequest) (i : ℕ) (o p : List ℕ) → length all ≤ i
    → p ++ shapes_text (frames width before row (drop i all)) ≡ o → p ≡ o
frames-past width before row all i o p le e = ended o p (frames width before row (drop i all)) (ap (frames width before row) (past all i le)) e

pub rows-past : (row : ℕ) (all : List PictureRequest) (i : ℕ) (o p : List ℕ) → length all ≤ i → p ++ shapes_text (rows row (drop i all)) ≡ o → p ≡ o
rows-past row all i o p le e = ended o p (rows row (drop i all)) (ap (rows row) (past all i le)) e

pub arrows-past : (rs : List PictureRequest) (all : List Arrow) (i : ℕ) (o p : List ℕ) → length all ≤ i → p ++ shapes_text (arrows rs (drop i all)) ≡ o → p ≡ o
arrows-past rs all i o p le e = ended o p (arrows rs (drop i all)) (ap (arrows rs) (past all i le)) e

pub whys-past : (rs : List PictureRequest) (all : List Arrow) (i : ℕ) (o p : List ℕ) → length all ≤ i → p ++ shapes_text (whys rs (drop i all)) ≡ o → p ≡ o
whys-past rs all i o p le e = ended o p (whys rs (drop i all)) (ap (whys rs) (past all i le)) e

pub told-past : (y : ℕ) (all : List Line) (i : ℕ) (o p : List ℕ) → length all ≤ i → p ++ shapes_text (told y (drop i all)) ≡ o → p ≡ o
told-past y all i o p le e = ended o p (told y (drop i all)) (ap (told y) (past all i le)) e

-- ---- whether one passes

any_by : (any a b : Bool) → ((any || a) || b) ≡ (any || (a || b))
any_by true a b = refl
any_by false a b = refl

or_none : (any : Bool) → any ≡ (any || false)
or_none true = refl
or_none false = refl

pub any-next : {X : Type 0} (t : X → Bool) (all : List X) (i : ℕ) (x : X) (any any' : Bool) → i < length all → x ≡ get_or all i x → any' ≡ (any || t x)
    → (any' || list_any t (drop (i + 1) all)) ≡ (any || list_any t (drop i all))
any-next {X = X} t all i x any any' lt is e =
    ap (λ (b : Bool). b || list_any t (drop (i + 1) all)) e ∙ any_by any (t x) (list_any t (drop (i + 1) all)) ∙ ap (λ (l : List X). any || list_any t l) (sym (cut all i x lt is))

pub any-past : {X : Type 0} (t : X → Bool) (all : List X) (i : ℕ) (any : Bool) → length all ≤ i → any ≡ (any || list_any t (drop i all))
any-past {X = X} t all i any le = or_none any ∙ ap (λ (l : List X). any || list_any t l) (sym (past all i le))
