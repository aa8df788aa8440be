-- Which pieces are finer.
use Rattle.std.specs.Prelude.{ℕ, ◌≡◌, ◌%◌, Option, Some, None}
use Rattle.log_pieces.specs.declared.Granularity.{Granularity}
use Rattle.log_pieces.specs.declared.Granularity.TheVariants as sizes

-- how many bytes a piece has; none of whole requests
abbrev pub bytes_of : Granularity → Option ℕ
bytes_of sizes.Four = Some 4
bytes_of sizes.Eight = Some 8
bytes_of sizes.Sixteen = Some 16
bytes_of sizes.SixtyFour = Some 64
bytes_of sizes.Whole = None

-- the first divides the second; of whole requests there are pieces of any size
abbrev pub Divides : Option ℕ → Option ℕ → Type 0
Divides small None = Unit {0}
Divides None (Some large) = ⊥
Divides (Some small) (Some large) = large % small ≡ 0

-- each piece of the second size is some pieces of the first
abbrev pub IsFiner : Granularity → Granularity → Type 0
IsFiner small large = Divides (bytes_of small) (bytes_of large)
