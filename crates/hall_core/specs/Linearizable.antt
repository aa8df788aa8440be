-- What is linearizable, and when all is answered.
use Rattle.std.specs.Prelude.{◌≡◌, ◌<◌, ◌≤◌, ℕ, List, Some, slice_get, true, false}
use Rattle.std.specs.List.{list_any}
use Rattle.tlp_core.specs.Ops.{Op}
use Rattle.tlp_core.specs.Operation.{is_posted}
use Rattle.seq_memory.specs.Entries.{Entry, Reply}
use Rattle.history_words.specs.Records.{Record}
use Rattle.history_words.specs.declared.record.RecordOf.TheVariants.{Sub, Ans}
use Rattle.history_words.specs.Clocks.{ActsAt, KeepsRealTimeOrder}
use Rattle.history_words.specs.Trace.{Explains, answers_to}
use Rattle.fabric_steps.specs.Fabric.{Fabric}
use Rattle.hall_laws.specs.Tells.{Has}

-- the fabric's history explains the records, and keeps the order of real time
pub record IsLinearizable (f : Fabric) (rs : List Record) : Type 0 where
  pub explained : Explains (record { memory = f.memory; records = rs })
  pub ordered : KeepsRealTimeOrder (record { memory = f.memory; records = rs })

-- each request that was submitted and isn't posted has an answer
abbrev pub AreAnswered : List Record → Type 0
AreAnswered rs = (a i k n : ℕ) (op : Op) → slice_get rs a ≡ Some (Sub i k op n) → is_posted op ≡ false → list_any (answers_to i k) rs ≡ true

-- of any two of the records, in whatever order they stand: a request that was answered when the history was no longer than
-- when another was submitted acts before it
abbrev pub KeepsTheOrderOfCounts : List Entry → List Record → Type 0
KeepsTheOrderOfCounts h rs =
    (i k j m until since p q : ℕ) (reply : Reply) (op : Op) → Has (Ans i k reply until) rs → Has (Sub j m op since) rs → until ≤ since
    → ActsAt h i k p → ActsAt h j m q → p < q
