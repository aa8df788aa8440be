-- How often requests take away what one of them found, and how often others put it there.
use Rattle.std.specs.Prelude.{ℕ, ◌≡◌, ◌+◌, ◌<◌, ◌≤◌, List, [], ◌∷◌, length, replicate, slice_get, Some}
use Rattle.log_runs.specs.EventView as events
use Rattle.log_runs.specs.LogView.{LogView}
use Rattle.log_runs.specs.Runs.{acted_on}
use Rattle.search_rules.specs.Rules.{Suits, NeverBrings}
use Rattle.search_words.specs.declared.roles.Role.{Role}
use Rattle.search_words.specs.declared.roles.Role.TheVariants as roles

-- request b is answered, finds what request q found, and takes it away
pub record Takes (log : LogView) (q b : ℕ) : Type 0 where
  pub place : ℕ
  pub due : slice_get log.events place ≡ Some (events.Due b)
  pub finds : (m : List ℕ) → length m ≡ log.extent.size → Suits log.extent m (slice_get log.events b) → Suits log.extent m (slice_get log.events q)
  pub leaves : (m : List ℕ) → length m ≡ log.extent.size → Suits log.extent m (slice_get log.events b)
      → Suits log.extent (acted_on log.extent m (slice_get log.events b)) (slice_get log.events q) → ⊥

-- what request b does to what request q found
abbrev pub IsRole : LogView → ℕ → ℕ → Role → Type 0
IsRole log q b roles.Takes = Takes log q b
IsRole log q b roles.Keeps = NeverBrings log b q
IsRole log q b roles.MayPut = Unit {0}

abbrev pub takes_of : Role → ℕ
takes_of roles.Takes = 1
takes_of roles.Keeps = 0
takes_of roles.MayPut = 0

abbrev pub puts_of : Role → ℕ
puts_of roles.Takes = 0
puts_of roles.Keeps = 0
puts_of roles.MayPut = 1

-- of all of them
abbrev pub sum_of : (Role → ℕ) → List Role → ℕ
sum_of f [] = 0
sum_of f (r ∷ rs) = f r + sum_of f rs

-- these are the roles of the first requests
pub record AreRoles (log : LogView) (q : ℕ) (count : ℕ) (rs : List Role) : Type 0 where
  pub long : length rs ≡ count
  pub each : (b : ℕ) (r : Role) → slice_get rs b ≡ Some r → IsRole log q b r

-- what request q found is there at the start only if it is counted for so much
abbrev pub IsFirst : LogView → ℕ → ℕ → Type 0
IsFirst log q first = Suits log.extent (replicate log.extent.size 0) (slice_get log.events q) → 1 ≤ first

-- more requests take away what request q found than may put it there, with the start
pub record IsOverdrawn (log : LogView) (q : ℕ) : Type 0 where
  pub roles : List Role
  pub are : AreRoles log q (length log.events) roles
  pub first : ℕ
  pub start : IsFirst log q first
  pub more : first + sum_of puts_of roles < sum_of takes_of roles
