use Rattle.std.proofs.Common.{◌≡◌, ◌+◌, ◌*◌, ◌++◌, take, length}
use Rattle.hex.specs.Hex.{encode_upper}
use Rattle.hex_text.proofs.writing.put_last.Given as goal

abbrev pub invariant-loop-byte : goal.invariant-loop-byte
invariant-loop-byte l = record {
  done : l.text ≡ l.fn.text ++ encode_upper (take l.byte-index l.bytes);
  len : length l.text ≡ length l.fn.text + 2 * l.byte-index;
}
