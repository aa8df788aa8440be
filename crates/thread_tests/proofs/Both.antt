-- A list of one seat.
use Rattle.std.proofs.Common.{◌≡◌, zero, suc, [], ◌∷◌, subst}
use Rattle.hall_core.specs.Views.{HallView, SeatView, IsSeatOf, AreSeatsOf}

pub one_fits : (h : HallView) (x : SeatView) → IsSeatOf h x → AreSeatsOf h (x ∷ [])
one_fits h x fits zero s at = let same : x ≡ s = cc in subst (IsSeatOf h) same fits
one_fits h x fits (suc i) s at = let no : ⊥ = cc in absurd no
