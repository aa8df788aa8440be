use Rattle.std.proofs.Common.{◌≡◌, ◌≤◌, ◌+◌, ◌*◌, ◌%◌, take, length}
use Rattle.hex.specs.Hex.{decode_pairs}
use Rattle.hex.proofs.Pairs.{prepend}
use Rattle.hex_text.specs.Line.{digits_of}
use Rattle.hex_text.proofs.reading.read_groups.Given as goal

abbrev pub invariant-loop-rest : goal.invariant-loop-rest
invariant-loop-rest l = record {
  read : decode_pairs 0 (digits_of l.line) ≡ prepend (take l.count l.bytes) (decode_pairs (2 * l.count) (digits_of l.rest));
  even : length (digits_of l.line) % 2 ≡ length (digits_of l.rest) % 2;
  room : 2 * l.count + length l.rest ≤ 512;
  same : length l.bytes ≡ 256;
}

abbrev pub decreases-loop-rest : goal.decreases-loop-rest
decreases-loop-rest l = length l.rest
