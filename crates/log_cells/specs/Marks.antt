-- What is noted of the words of a memory to find where its cells begin.
use Rattle.std.specs.Prelude.{ℕ, ◌≡◌, ◌+◌, ◌*◌, ◌<◌, ◌≤◌, ◌⊎◌, List, Some, length, slice_get}
use Rattle.seq_memory.specs.Limits.{Extent}
use Rattle.log_cells.specs.declared.cells.Word.{Word}
use Rattle.log_cells.specs.declared.cells.Word.TheVariants as words
use Rattle.log_cells.specs.declared.places.Place.{Place}

-- the place lies in the memory, and on both sides of the address
abbrev pub IsCut : Extent → ℕ → Place → Type 0
IsCut x v p = (x.base ≤ p.from) × (p.from + p.count ≤ x.base + x.size) × (p.from < v) × (v < p.from + p.count)

-- what is joined stays so
pub record Keeps (ws vs : List Word) : Type 0 where
  pub len : length vs ≡ length ws
  pub joined : (k : ℕ) → slice_get ws k ≡ Some words.Joined → slice_get vs k ≡ Some words.Joined

-- of the first n places each that lies on both sides of a word's end joins that word to the next
abbrev pub AreJoined : Extent → List Place → List Word → ℕ → Type 0
AreJoined x ps ws n = (a k : ℕ) (p : Place) → a < n → slice_get ps a ≡ Some p → IsCut x (x.base + 4 * (k + 1)) p → slice_get ws k ≡ Some words.Joined

-- the word before isn't joined to it
pub record IsBeginning (ws : List Word) (b : ℕ) : Type 0 where
  pub within : b < length ws
  pub apart : (k : ℕ) → b ≡ k + 1 → slice_get ws k ≡ Some words.Joined → ⊥

-- an end of the memory, or the address of one of the words
abbrev pub IsBound : Extent → List ℕ → ℕ → Type 0
IsBound x bs v = (v ≡ x.base) ⊎ (x.base + x.size ≤ v + 1) ⊎ ((j b : ℕ) × (slice_get bs j ≡ Some b) × (v ≡ x.base + 4 * b))

-- the first n of the addresses are up to this one, the rest behind it
pub record IsSplit (vs : List ℕ) (a n : ℕ) : Type 0 where
  pub below : (j v : ℕ) → j < n → slice_get vs j ≡ Some v → v ≤ a
  pub above : (j v : ℕ) → n ≤ j → slice_get vs j ≡ Some v → a < v
