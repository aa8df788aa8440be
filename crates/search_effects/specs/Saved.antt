-- What an operation overwrites.
use Rattle.std.specs.Prelude.{ℕ, ◌-◌, List, [], length, Option, Some, None}
use Rattle.tlp_core.specs.Ops.{Op}
use Rattle.tlp_core.specs.Operation.{address_of, count_of}
use Rattle.seq_memory.specs.declared.Refusal.{Refusal}
use Rattle.seq_memory.specs.Step.{refusal, bytes_at}

abbrev pub saved_by : Option Refusal → List ℕ → List ℕ
saved_by None place = place
saved_by (Some r) place = []

-- the bytes at the operation's place, if it is served
abbrev pub saved_at : ℕ → ℕ → List ℕ → Op → List ℕ
saved_at base block m op = saved_by (refusal base (length m) block op) (bytes_at m (address_of op - base) (count_of op))
