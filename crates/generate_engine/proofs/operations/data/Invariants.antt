use Rattle.std.proofs.Common.{◌≡◌, length}
use Rattle.hex.specs.Hex.{IsBytes}
use Rattle.generate_engine.proofs.operations.data.Given as goal

abbrev pub invariant-loop-byte : goal.invariant-loop-byte
invariant-loop-byte l = record { count : length l.bytes.items ≡ l._byte; are_bytes : IsBytes l.bytes.items }
