-- An operation as contracts see it, whether its bytes are its own or lent.
use Rattle.std.specs.Prelude.{ℕ}
use Rattle.arrayvec.specs.ArrayVec.{ArrayVec}
use Rattle.tlp_core.specs.declared.operation.OpOf.{OpOf}

-- an operation, with the bytes of a write as a list
abbrev pub Op : Type 0
Op = OpOf (ArrayVec ℕ)
