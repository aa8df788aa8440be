-- Requests that may act in parts.
use Rattle.std.specs.Prelude.{ℕ, ◌<◌, List}
use Rattle.tlp_core.specs.Ops.{Op}
use Rattle.tlp_core.specs.declared.operation.OpOf.TheVariants as ops
use Rattle.tlp_core.specs.Operation.{count_of}
use Rattle.history_words.specs.Records.{Record}
use Rattle.log_events.specs.Asked.{IsSubmitted}

-- a read or a write of several DW
abbrev pub IsWide : Op → Type 0
IsWide (ops.Read address dw first last) = 4 < count_of (ops.Read address dw first last)
IsWide (ops.Write address first last bytes) = 4 < count_of (ops.Write address first last bytes)
IsWide op = ⊥

-- the record at the place submits one
pub record IsWideAt (rs : List Record) (place : ℕ) : Type 0 where
  pub op : Op
  pub submitted : IsSubmitted rs place op
  pub wide : IsWide op
