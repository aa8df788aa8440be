-- Seats that come out of their list are the hall's.
use Rattle.std.proofs.Common.{◌≡◌, ℕ, List, [], ◌++◌, length, ap, ◌∙◌, Option, Some, None, IfSome}
use Rattle.std.specs.Prelude.{slice_get, option_to_list}
use Rattle.fabric_steps.specs.ListFacts.{get_before, get_seam}
use Rattle.hall_core.specs.Views.{HallView, SeatView, AreNewSeats, IsSeatOf, AreSeatsOf}

pub new_fit : (h : HallView) (first count : ℕ) (xs : List SeatView) → AreNewSeats h first count xs → AreSeatsOf h xs
new_fit h first count xs new i s at = let p = new.each i s at in (p.0, ap (λ k. k.config) p.1, ap (λ k. k.opened) p.1, ap (λ k. k.seats) p.1)

some_fits : (h : HallView) (xs ys : List SeatView) (o : Option SeatView) → xs ≡ ys ++ option_to_list o → AreSeatsOf h xs → IfSome o (IsSeatOf h)
some_fits h xs ys None e all = tt
some_fits h xs ys (Some x) e all = all (length ys) x (ap (λ (l : List SeatView). slice_get l (length ys)) e ∙ get_seam ys [] x)

pub last_fits : (h : HallView) (xs ys : List SeatView) (o : Option SeatView) → xs ≡ ys ++ option_to_list o → AreSeatsOf h xs → AreSeatsOf h ys × IfSome o (IsSeatOf h)
last_fits h xs ys o e all = ((λ i s at. all i s (ap (λ (l : List SeatView). slice_get l i) e ∙ get_before ys (option_to_list o) i s at)), some_fits h xs ys o e all)
