-- The turns of a worker.
use Rattle.std.specs.Prelude.{ℕ, ◌≤◌}

-- so many have begun, of so many at most
pub record TurnsView : Type 0 where
  pub done : ℕ
  pub limit : ℕ

abbrev pub IsWithin : TurnsView → Type 0
IsWithin t = t.done ≤ t.limit
