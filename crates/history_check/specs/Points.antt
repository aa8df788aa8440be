-- How a table keeps a number or none in 32 bits.
use Rattle.std.specs.Prelude.{ℕ, ◌<◌, ◌==◌, Option, Some, None, IfSome, if◌then◌else◌}

-- what stands for none is the greatest number of 32 bits
abbrev pub point_of : ℕ → Option ℕ
point_of n = if n == 4294967295 then None else Some n

-- the number, if there is one, can stand in a table
abbrev pub Fits : Option ℕ → Type 0
Fits point = IfSome point (λ p. p < 4294967295)
