-- Which places a number has.
use Rattle.std.specs.Prelude.{ℕ, ◌≡◌, ◌<◌, ◌≤◌, nat_eq, List, [], ◌∷◌, length, slice_get, get_or, Option, Some, None}
use Rattle.std.specs.Map.{lookup}
use Rattle.std.specs.List.Sorted.{IsNonDecreasing}
use Rattle.search_words.specs.declared.lists.Spot.{Spot}
use Rattle.search_words.specs.declared.lists.Spot.TheVariants as spots
use Rattle.search_words.specs.ListsView.{ListsView}

abbrev pub InList : List ℕ → ℕ → Type 0
InList xs b = (i : ℕ) × (slice_get xs i ≡ Some b)

abbrev pub spot_of : ListsView → ℕ → Option Spot
spot_of l k = lookup (nat_eq k) l.spots

abbrev pub places_at : List (List ℕ) → Option Spot → List ℕ
places_at rows None = []
places_at rows (Some (spots.One b)) = b ∷ []
places_at rows (Some (spots.Several i)) = get_or rows i []

abbrev pub places_of : ListsView → ℕ → List ℕ
places_of l k = places_at l.several (spot_of l k)

-- the number has the place
abbrev pub Has : ListsView → ℕ → ℕ → Type 0
Has l k b = InList (places_of l k) b

-- the list rises, up to n at most
pub record RisesTo (xs : List ℕ) (n : ℕ) : Type 0 where
  pub rises : IsNonDecreasing xs
  pub below : (b : ℕ) → InList xs b → b ≤ n

-- each list does
pub record IsRising (l : ListsView) (n : ℕ) : Type 0 where
  pub one : (k b : ℕ) → spot_of l k ≡ Some (spots.One b) → b ≤ n
  pub known : (k i : ℕ) → spot_of l k ≡ Some (spots.Several i) → i < length l.several
  pub several : (i : ℕ) → RisesTo (get_or l.several i []) n

-- the number has the place, too
pub record Adds (old new : ListsView) (number place : ℕ) : Type 0 where
  pub kept : (k b : ℕ) → Has old k b → Has new k b
  pub own : Has new number place
  pub rising : IsRising new place
