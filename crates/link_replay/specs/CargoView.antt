use Rattle.std.specs.Prelude.{ℕ, List}

-- a packet's bytes, and the mark that rides beside them
pub record CargoView : Type 0 where
  pub bytes : List ℕ
  pub mark : ℕ
