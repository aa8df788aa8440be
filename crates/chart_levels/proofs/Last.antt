-- The last step.
use Rattle.std.proofs.Common.{◌≡◌, ◌∙◌, ◌-◌, ℕ, suc, List, [], ◌∷◌, length, refl, sym, ap, arith}
use Rattle.std.specs.Prelude.{slice_get}
use Rattle.chart_levels.specs.declared.step_line.Step.{Step}
use Rattle.chart_levels.specs.Levels.{last_of}

pub last_is : (ss : List Step) → last_of ss ≡ slice_get ss (length ss - 1)
last_is [] = refl
last_is (s ∷ []) = refl
last_is (s ∷ t ∷ ss) =
    let longer : length (s ∷ t ∷ ss) - 1 ≡ suc (length ss) = omega arith in
    let shorter : length (t ∷ ss) - 1 ≡ length ss = omega arith in
    last_is (t ∷ ss) ∙ ap (slice_get (t ∷ ss)) shorter ∙ sym (ap (slice_get (s ∷ t ∷ ss)) longer)
