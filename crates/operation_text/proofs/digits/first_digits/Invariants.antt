use Rattle.std.proofs.Common.{◌≡◌, ℕ, ◌-◌, ◌^◌, ◌<◌, ◌≤◌, length, take, get_or, false, Some}
use Rattle.operation_text.specs.Words.{is_space}
use Rattle.operation_text.specs.Numbers.{numeral_after}
use Rattle.operation_text.proofs.digits.first_digits.Given as goal

abbrev pub invariant-loop-count : goal.invariant-loop-count
invariant-loop-count l = record {
  value : (most : ℕ) → l.number ≤ most → numeral_after l.radix most 0 (take l.count l.line) ≡ Some l.number;
  digits : (i : ℕ) → i < l.count → is_space (get_or l.line i 0) ≡ false;
  fits : l.count ≤ length l.line;
  few : l.count ≤ 15;
  below : l.number < 16 ^ l.count;
}

abbrev pub decreases-loop-count : goal.decreases-loop-count
decreases-loop-count l = l.most - l.count
