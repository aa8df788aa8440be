-- Which bytes the events of a log name.
use Rattle.std.specs.Prelude.{ℕ, ◌≡◌, ◌+◌, ◌<◌, ◌≤◌, ◌⊎◌, List, length, slice_get, Some}
use Rattle.tlp_core.specs.Operation.{address_of, count_of}
use Rattle.log_runs.specs.EventView.{EventView}
use Rattle.log_runs.specs.EventView as events
use Rattle.log_cells.specs.declared.places.Place.{Place}

-- those that a submission's operation names; of other events nothing is said
abbrev pub IsPlaceOf : EventView → Place → Type 0
IsPlaceOf (events.Sub i op told) p = (p.from ≡ address_of op) × (p.count ≡ count_of op)
IsPlaceOf (events.Due b) p = Unit {0}
IsPlaceOf events.Free p = Unit {0}

pub record ArePlaces (es : List EventView) (ps : List Place) : Type 0 where
  pub len : length ps ≡ length es
  pub at : (a : ℕ) (e : EventView) (p : Place) → slice_get es a ≡ Some e → slice_get ps a ≡ Some p → IsPlaceOf e p

-- no byte of the place lies from low up to high
abbrev pub IsApart : ℕ → ℕ → Place → Type 0
IsApart low high p = (p.from + p.count ≤ low) ⊎ (high ≤ p.from)

-- in rising order, the places of the list, below n, that may have such a byte
pub record AreNames (names : List ℕ) (ps : List Place) (low high n : ℕ) : Type 0 where
  pub rises : (i j a b : ℕ) → i < j → slice_get names i ≡ Some a → slice_get names j ≡ Some b → a < b
  pub below : (i a : ℕ) → slice_get names i ≡ Some a → a < n
  pub all : (a : ℕ) (p : Place) → a < n → slice_get ps a ≡ Some p → IsApart low high p ⊎ ((j : ℕ) × (slice_get names j ≡ Some a))
