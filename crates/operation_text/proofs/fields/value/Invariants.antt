use Rattle.std.proofs.Common.{◌≡◌, ◌≤◌, drop}
use Rattle.operation_text.specs.Numbers.{numeral_after}
use Rattle.operation_text.proofs.fields.value.Given as goal

abbrev pub invariant-loop-c : goal.invariant-loop-c
invariant-loop-c l = record {
  value : numeral_after l.radix l.most 0 l.word ≡ numeral_after l.radix l.most l.n (drop l.c-index l.word);
  range : l.n ≤ l.most;
}
