-- The value of a step line at a row is that of the fabric which it was shown there.
use Rattle.std.proofs.Common.{◌≡◌, ◌∙◌, ◌+◌, ◌<◌, ◌≤◌, ◌++◌, ℕ, zero, suc, Bool, true, false, List, [], ◌∷◌, length, refl, sym, ap, subst, cond, arith}
use Rattle.std.specs.Prelude.{nat_le, Option, Some, None, slice_get}
use Rattle.std.specs.Option.{option_map}
use Rattle.std.proofs.lemmas.Bool.{le-leb, eqb-true}
use Rattle.std.proofs.lemmas.Bool.Decides.{leb_tells}
use Rattle.fabric_steps.specs.Fabric.{Fabric}
use Rattle.chart_levels.specs.declared.step_line.Step.{Step}
use Rattle.chart_levels.specs.StepLineView.{StepLineView}
use Rattle.chart_levels.specs.Levels.{last_of, later, is_same, is_at, step_to, stepped, or_value, value_at, level_of, shown, shown_from}

abbrev value_of : Option Step → Option (Option ℕ)
value_of None = None
value_of (Some s) = Some s.value

-- from this row on the value is that of the last step
abbrev IsSettled : List Step → ℕ → Type 0
IsSettled ss from = (row : ℕ) → from ≤ row → value_at ss row ≡ value_of (last_of ss)

-- ---- one step more

or_if : (b : Bool) (v : Option ℕ) (o x : Option (Option ℕ)) → or_value (cond b (Some v) o) x ≡ cond b (Some v) (or_value o x)
or_if true v o x = refl
or_if false v o x = refl

value_at_end : (ss : List Step) (s : Step) (row : ℕ) → value_at (ss ++ s ∷ []) row ≡ cond (nat_le s.row row) (Some s.value) (value_at ss row)
value_at_end [] s row = refl
value_at_end (t ∷ ss) s row =
    ap (λ (o : Option (Option ℕ)). or_value o (cond (nat_le t.row row) (Some t.value) None)) (value_at_end ss s row)
    ∙ or_if (nat_le s.row row) s.value (value_at ss row) (cond (nat_le t.row row) (Some t.value) None)

last_of_end : (ss : List Step) (s : Step) → last_of (ss ++ s ∷ []) ≡ Some s
last_of_end [] s = refl
last_of_end (t ∷ ss) s = ap (λ (o : Option Step). Some (later o t)) (last_of_end ss s)

reached : (a b : ℕ) (v : Option ℕ) (o : Option (Option ℕ)) → a ≤ b → cond (nat_le a b) (Some v) o ≡ Some v
reached a b v o le = ap (λ (x : Bool). cond x (Some v) o) (le-leb a b le)

not_reached_by : (x : Bool) (a b : ℕ) (v : Option ℕ) (o : Option (Option ℕ)) → nat_le a b ≡ x → b < a → cond x (Some v) o ≡ o
not_reached_by true a b v o e lt = absurd (grind (arith, leb_tells))
not_reached_by false a b v o e lt = refl

not_reached : (a b : ℕ) (v : Option ℕ) (o : Option (Option ℕ)) → b < a → cond (nat_le a b) (Some v) o ≡ o
not_reached a b v o lt = not_reached_by (nat_le a b) a b v o refl lt

same_value : (a b : Option ℕ) → is_same a b ≡ true → a ≡ b
same_value (Some a) (Some b) e = ap (λ (n : ℕ). Some n) (eqb-true a b e)
same_value None None e = refl
same_value (Some a) None e = absurd cc
same_value None (Some b) e = absurd cc

value_if_at : (o : Option Step) (v : Option ℕ) → is_at o v ≡ true → value_of o ≡ Some v
value_if_at None v e = absurd cc
value_if_at (Some s) v e = ap (λ (w : Option ℕ). Some w) (same_value s.value v e)

-- ---- a row more

stays_by : (b : Bool) (ss : List Step) (row : ℕ) (v : Option ℕ) (r : ℕ) → r < row → value_at (cond b ss (ss ++ step_to row v ∷ [])) r ≡ value_at ss r
stays_by true ss row v r lt = refl
stays_by false ss row v r lt = value_at_end ss (step_to row v) r ∙ not_reached row r v (value_at ss r) lt

-- what is below the row stays
stays : (ss : List Step) (row : ℕ) (v : Option ℕ) (r : ℕ) → r < row → value_at (stepped ss row v) r ≡ value_at ss r
stays ss row v r lt = stays_by (is_at (last_of ss) v) ss row v r lt

now_by : (b : Bool) (ss : List Step) (row : ℕ) (v : Option ℕ) (r : ℕ) → IsSettled ss row → is_at (last_of ss) v ≡ b → row ≤ r → value_at (cond b ss (ss ++ step_to row v ∷ [])) r ≡ Some v
now_by true ss row v r settled e le = settled r le ∙ value_if_at (last_of ss) v e
now_by false ss row v r settled e le = value_at_end ss (step_to row v) r ∙ reached row r v (value_at ss r) le

-- from the row on it is the new value
now : (ss : List Step) (row : ℕ) (v : Option ℕ) (r : ℕ) → IsSettled ss row → row ≤ r → value_at (stepped ss row v) r ≡ Some v
now ss row v r settled le = now_by (is_at (last_of ss) v) ss row v r settled refl le

last_by : (b : Bool) (ss : List Step) (row : ℕ) (v : Option ℕ) → is_at (last_of ss) v ≡ b → value_of (last_of (cond b ss (ss ++ step_to row v ∷ []))) ≡ Some v
last_by true ss row v e = value_if_at (last_of ss) v e
last_by false ss row v e = ap value_of (last_of_end ss (step_to row v))

settled_next : (ss : List Step) (row : ℕ) (v : Option ℕ) → IsSettled ss row → IsSettled (stepped ss row v) (row + 1)
settled_next ss row v settled = λ r le. now ss row v r settled (omega (arith, le)) ∙ sym (last_by (is_at (last_of ss) v) ss row v refl)

-- ---- all rows

kept : (fs : List Fabric) (l : StepLineView) (row r : ℕ) → IsSettled l.steps row → r < row → value_at (shown_from row fs l).steps r ≡ value_at l.steps r
kept [] l row r settled lt = refl
kept (f ∷ fs) l row r settled lt =
    kept fs (shown row f l) (row + 1) r (settled_next l.steps row (level_of f l.lane l.level) settled) (omega (arith, lt))
    ∙ stays l.steps row (level_of f l.lane l.level) r lt

there : (fs : List Fabric) (l : StepLineView) (row k : ℕ) → IsSettled l.steps row → k < length fs
    → value_at (shown_from row fs l).steps (row + k) ≡ option_map (λ f. level_of f l.lane l.level) (slice_get fs k)
there [] l row k settled lt = absurd (omega (arith, lt))
there (f ∷ fs) l row zero settled lt =
    kept fs (shown row f l) (row + 1) (row + zero) (settled_next l.steps row (level_of f l.lane l.level) settled) (omega arith)
    ∙ now l.steps row (level_of f l.lane l.level) (row + zero) settled (omega arith)
there (f ∷ fs) l row (suc k) settled lt =
    let moved : row + suc k ≡ (row + 1) + k = omega arith in
    ap (λ (n : ℕ). value_at (shown_from row (f ∷ fs) l).steps n) moved
    ∙ there fs (shown row f l) (row + 1) k (settled_next l.steps row (level_of f l.lane l.level) settled) (omega (arith, lt))

pub has_levels : (fs : List Fabric) (l : StepLineView) (row : ℕ) → l.steps ≡ [] → row < length fs
    → value_at (shown_from 0 fs l).steps row ≡ option_map (λ f. level_of f l.lane l.level) (slice_get fs row)
has_levels fs l row none lt =
    let same : row ≡ 0 + row = omega arith in
    ap (λ (n : ℕ). value_at (shown_from 0 fs l).steps n) same
    ∙ there fs l 0 row (λ r le. subst (λ (ss : List Step). value_at ss r ≡ value_of (last_of ss)) (sym none) refl) lt
