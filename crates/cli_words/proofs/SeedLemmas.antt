-- The seeds of a sweep.
use Rattle.std.proofs.Common.{◌≤◌, ℕ, Option, Some, None}
use Rattle.clap.specs.Words.{Text}
use Rattle.cli_values.specs.Seeds.{WritesSeeds}

pub seeds_ordered : (t : Option Text) (seeds : ℕ × ℕ) → WritesSeeds t seeds → seeds.0 ≤ seeds.1
seeds_ordered None seeds w = absurd w
seeds_ordered (Some t) seeds w = w.ordered
