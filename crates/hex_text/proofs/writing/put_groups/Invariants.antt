use Rattle.std.proofs.Common.{◌≡◌, ◌≤◌, ◌+◌, ◌*◌, ◌++◌, ◌∷◌, [], length}
use Rattle.hex.specs.Hex.{encode_upper}
use Rattle.hex_text.specs.Line.{spaced}
use Rattle.hex_text.proofs.writing.put_groups.Given as goal

abbrev pub invariant-loop-rest : goal.invariant-loop-rest
invariant-loop-rest l = record {
  same : l.text ++ (spaced (encode_upper l.rest) ++ 10 ∷ []) ≡ l.fn.text ++ (spaced (encode_upper l.bytes) ++ 10 ∷ []);
  room : 8 * length l.text + 18 * length l.rest ≤ 2592;
}

abbrev pub decreases-loop-rest : goal.decreases-loop-rest
decreases-loop-rest l = length l.rest
