use Rattle.std.proofs.Common.{◌≡◌, ◌+◌, ◌*◌, ◌/◌, take, length}
use Rattle.hex.specs.Hex.{decode_pairs}
use Rattle.hex.proofs.Pairs.{prepend}
use Rattle.hex_text.proofs.reading.read_fours.Given as goal

abbrev pub invariant-loop-rest : goal.invariant-loop-rest
invariant-loop-rest l = record {
  read : decode_pairs 0 l.digits ≡ prepend (take l.count l.bytes) (decode_pairs (2 * l.count) l.rest);
  room : 2 * l.count + length l.rest ≡ length l.digits;
  same : length l.bytes ≡ length l.digits / 2;
}

abbrev pub decreases-loop-rest : goal.decreases-loop-rest
decreases-loop-rest l = length l.rest
