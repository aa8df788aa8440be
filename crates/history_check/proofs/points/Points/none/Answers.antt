use Rattle.std.proofs.Common.{◌≡◌, ◌∷◌, map, ap, ◌∙◌, refl, ℕ, zero, suc, List, Option, None}
use Rattle.std.specs.Prelude.{replicate}
use Rattle.history_check.specs.Points.{point_of}
use Rattle.history_check.proofs.points.Points.none.Goals as goal

all_none : (n : ℕ) → map point_of (replicate n 4294967295) ≡ replicate n None
all_none zero = refl
all_none (suc n) =
    let nothing : Option ℕ = None in
    ap (λ (points : List (Option ℕ)). nothing ∷ points) (all_none n)

pub returns : goal.returns
returns c = ap (map point_of) c.in_ok-nones.ensures ∙ all_none c.args.count
