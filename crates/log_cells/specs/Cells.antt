-- A log's memory, divided into ranges whose ends no request crosses.
use Rattle.std.specs.Prelude.{ℕ, ◌≡◌, ◌+◌, ◌^◌, ◌<◌, ◌≤◌, ◌⊎◌, List, Option, Some, length, slice_get}
use Rattle.seq_memory.specs.Limits.{Extent}
use Rattle.tlp_core.specs.Ops.{Op}
use Rattle.tlp_core.specs.Operation.{address_of, count_of}
use Rattle.seq_memory.specs.Entries.{Reply}
use Rattle.log_runs.specs.EventView as events
use Rattle.log_runs.specs.LogView.{LogView}
use Rattle.log_cells.specs.CellsView.{CellsView}
use Rattle.log_cells.specs.Places.{ArePlaces}

-- each request whose bytes the memory has lies before the address or behind it
abbrev pub IsUncut : LogView → ℕ → Type 0
IsUncut log v =
    (a i : ℕ) (op : Op) (told : Option Reply) → slice_get log.events a ≡ Some (events.Sub i op told) → log.extent.base ≤ address_of op → address_of op + count_of op ≤ log.extent.base + log.extent.size
    → (address_of op + count_of op ≤ v) ⊎ (v ≤ address_of op)

-- each is below the next
abbrev pub IsRising : List ℕ → Type 0
IsRising vs = (j v w : ℕ) → slice_get vs j ≡ Some v → slice_get vs (j + 1) ≡ Some w → v < w

-- the address behind the memory's last byte, or 2^64 - 1 if that is 2^64
abbrev pub IsEnd : Extent → ℕ → Type 0
IsEnd x v = ((x.base + x.size < 2 ^ 64) × (v ≡ x.base + x.size)) ⊎ ((x.base + x.size ≡ 2 ^ 64) × (v + 1 ≡ 2 ^ 64))

-- the ranges from each of these addresses to the next divide the memory, but for a last byte at 2^64 - 1
pub record IsDivided (x : Extent) (vs : List ℕ) : Type 0 where
  pub first : slice_get vs 0 ≡ Some x.base
  pub last : (n v : ℕ) → length vs ≡ n + 1 → slice_get vs n ≡ Some v → IsEnd x v
  pub rising : IsRising vs

-- the ranges divide the memory, and no such request crosses a bound within it
pub record AreCells (log : LogView) (c : CellsView) : Type 0 where
  pub places : ArePlaces log.events c.places
  pub divided : IsDivided log.extent c.bounds
  pub uncut : (j v : ℕ) → slice_get c.bounds j ≡ Some v → v + 1 < log.extent.base + log.extent.size → IsUncut log v
