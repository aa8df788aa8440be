-- Parts of a log: the requests on some bytes of the memory, and their answers.
use Rattle.std.specs.Prelude.{ℕ, ◌≡◌, ◌+◌, ◌<◌, ◌≤◌, ◌⊎◌, List, length, slice_get, Option, Some}
use Rattle.tlp_core.specs.Ops.{Op}
use Rattle.tlp_core.specs.Operation.{address_of, count_of}
use Rattle.seq_memory.specs.Entries.{Reply}
use Rattle.seq_memory.specs.Limits.{Extent}
use Rattle.log_runs.specs.EventView.{EventView}
use Rattle.log_runs.specs.EventView as events
use Rattle.log_runs.specs.LogView.{LogView}

-- each byte that the operation names lies from low up to high
abbrev pub IsInside : ℕ → ℕ → Op → Type 0
IsInside low high op = (low ≤ address_of op) × (address_of op + count_of op ≤ high)

-- none does
abbrev pub IsOutside : ℕ → ℕ → Op → Type 0
IsOutside low high op = (address_of op + count_of op ≤ low) ⊎ (high ≤ address_of op)

-- the bytes from low up to high lie in a memory of that extent
abbrev pub Holds : Extent → ℕ → ℕ → Type 0
Holds x low high = (x.base ≤ low) × (high ≤ x.base + x.size)

-- what a part has for an event of the log: the same submission, or the answer to the request that it names so
abbrev pub IsKept : List ℕ → EventView → EventView → Type 0
IsKept names (events.Sub i op told) (events.Sub j w heard) = (i ≡ j) × (op ≡ w) × ((r : Reply) → heard ≡ Some r → told ≡ Some r)
IsKept names (events.Due b) (events.Due c) = slice_get names c ≡ Some b
IsKept names (events.Due b) events.Free = Unit {0}
IsKept names events.Free events.Free = Unit {0}
IsKept names (events.Sub i op told) (events.Due c) = ⊥
IsKept names (events.Sub i op told) events.Free = ⊥
IsKept names (events.Due b) (events.Sub j w heard) = ⊥
IsKept names events.Free (events.Sub j w heard) = ⊥
IsKept names events.Free (events.Due c) = ⊥

-- a submission names bytes from low up to high alone
abbrev pub NamesInside : ℕ → ℕ → EventView → Type 0
NamesInside low high (events.Sub i op told) = IsInside low high op
NamesInside low high (events.Due b) = Unit {0}
NamesInside low high events.Free = Unit {0}

-- n events of a part, each with its name
pub record AreKept (es : List EventView) (names : List ℕ) (low high : ℕ) (fs : List EventView) (n : ℕ) : Type 0 where
  pub len : length fs ≡ n
  pub at : (j : ℕ) (f : EventView) → slice_get fs j ≡ Some f
      → (a : ℕ) × (slice_get names j ≡ Some a) × (e : EventView) × (slice_get es a ≡ Some e) × IsKept names e f × NamesInside low high f

-- the requests on the bytes from low up to high; names has the place in the log of each event of the part
pub record IsPart (log part : LogView) (low high : ℕ) (names : List ℕ) : Type 0 where
  -- both memories have these bytes
  pub block : part.extent.block ≡ log.extent.block
  pub of_log : Holds log.extent low high
  pub of_part : Holds part.extent low high
  -- the events stand in the order of the log
  pub len : length names ≡ length part.events
  pub rises : (i j a b : ℕ) → i < j → slice_get names i ≡ Some a → slice_get names j ≡ Some b → a < b
  pub kept : (j a : ℕ) (f : EventView) → slice_get names j ≡ Some a → slice_get part.events j ≡ Some f → (e : EventView) × (slice_get log.events a ≡ Some e) × IsKept names e f
  -- the part's requests name these bytes alone, and all others none of them
  pub inside : (j i : ℕ) (op : Op) (told : Option Reply) → slice_get part.events j ≡ Some (events.Sub i op told) → IsInside low high op
  pub others : (a i : ℕ) (op : Op) (told : Option Reply) → slice_get log.events a ≡ Some (events.Sub i op told) → IsOutside low high op ⊎ ((j : ℕ) × (slice_get names j ≡ Some a))
