-- The tokens of new seats, one after the other.
use Rattle.std.proofs.Common.{◌≡◌, ℕ, zero, suc, ◌+◌, ◌-◌, ◌<◌, List, [], ◌∷◌, ◌++◌, length, length-append, refl, sym, ap, ◌∙◌, subst, arith, Some, ⊎_elim}
use Rattle.std.specs.Prelude.{slice_get}
use Rattle.fabric_steps.specs.Fabric.{Fabric}
use Rattle.fabric_core.specs.declared.config.Config.{Config}
use Rattle.fabric_steps.specs.ListFacts.{get_push}
use Rattle.hall_laws.specs.Standing.{token_of, others_of}
use Rattle.hall_laws.specs.Rule.{newcomer, newcomers}
use Rattle.hall_core.specs.Views.{SeatView, HallView, AreNewSeats}

-- the first of some tokens leaves
pub first_token : (c : Config) (f : Fabric) (m n count : ℕ) → 0 < count → (token_of (newcomers c f m n count) ≡ newcomer c f m n) × (others_of (newcomers c f m n count) ≡ newcomers c f m (suc n) (count - 1)) × (0 < length (newcomers c f m n count))
first_token c f m n zero some = absurd (omega arith)
first_token c f m n (suc count) some = (refl, ap (newcomers c f m (suc n)) (let z : count ≡ suc count - 1 = omega arith in z), omega arith)

pub none_yet : (h : HallView) (first : ℕ) → AreNewSeats h first 0 []
none_yet h first = record { number = refl; each = λ i s at. absurd (cc) }

pub one_more : (h : HallView) (first count : ℕ) (seats : List SeatView) (s : SeatView) → AreNewSeats h first count seats → (s.table_id ≡ h.table_id) × (s.knows ≡ (newcomer h.config h.opened h.seats (first + count)).knows) → AreNewSeats h first (count + 1) (seats ++ s ∷ [])
one_more h first count seats s a b = record {
  number = length-append seats (s ∷ []) ∙ (let n = a.number in let g : length seats + 1 ≡ count + 1 = omega arith in g);
  each = λ i x at. ⊎_elim (λ (e : slice_get seats i ≡ Some x). a.each i x e)
      (λ (e : (i ≡ length seats) × (s ≡ x)). let same : i ≡ count = e.0 ∙ a.number in
      subst (λ (y : SeatView). (y.table_id ≡ h.table_id) × (y.knows ≡ (newcomer h.config h.opened h.seats (first + i)).knows)) e.1 (b.0, b.1 ∙ ap (λ (n : ℕ). (newcomer h.config h.opened h.seats (first + n)).knows) (sym same))) (get_push seats s i x at);
}
