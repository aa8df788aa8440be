use Rattle.std.proofs.Common.{◌≡◌, ◌≤◌, length, take}
use Rattle.hex_text.specs.Line.{digits_of}
use Rattle.hex_text.proofs.reading.copy_digits.Given as goal

abbrev pub invariant-loop-byte : goal.invariant-loop-byte
invariant-loop-byte l = record {
  digits : take l.count l.room ≡ digits_of (take l.byte-index l.line);
  few : l.count ≤ l.byte-index;
  same : length l.room ≡ 512;
}
