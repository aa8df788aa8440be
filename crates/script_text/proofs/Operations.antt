-- The words of an operation spell it.
use Rattle.std.proofs.Common.{◌≡◌, ℕ, zero, suc, ◌^◌, ◌<◌, ◌≤◌, true, false, List, [], length, refl, ap, arith, Some}
use Rattle.std.specs.Prelude.{◌==◌, nat_lt}
use Rattle.std.specs.Fmt.{decimal}
use Rattle.std.specs.Int.{byte_at, bytes_low_first}
use Rattle.std.proofs.lemmas.Bool.{ne_eqb, eq-eqb}
use Rattle.std.proofs.lemmas.Bool.Decides.{nat_tests}
use Rattle.hex.specs.Hex.{encode_upper, upper_digits, IsBytes}
use Rattle.hex.proofs.HexLemmas.{length-encode_with, decode_of-encode_upper}
use Rattle.byteorder.specs.Endian.{little_bytes}
use Rattle.byteorder.specs.Numbers.{little_number-reads_back}
use Rattle.tlp_core.specs.Ops.{Op}
use Rattle.tlp_core.specs.declared.operation.OpOf.TheVariants as ops
use Rattle.tlp_core.specs.declared.operation.Width.{Width}
use Rattle.tlp_core.specs.declared.operation.Width.TheVariants as widths
use Rattle.tlp_core.specs.Operation.{size_of}
use Rattle.operation_text.specs.Numbers.{numeral, byte_string, operand_of}
use Rattle.operation_text.specs.Operations as spelled
use Rattle.operation_text.specs.Operations.{op_spelled, IsSpelledOp}
use Rattle.operation_text.specs.Texts.{hexadecimal, operand_word, op_words}
use Rattle.script_text.specs.Spelled.{IsData, IsOperand, IsInRange}

bytes-read : (bytes : List ℕ) → IsData bytes → byte_string (encode_upper bytes) ≡ Some bytes
bytes-read bytes h =
    let len = length-encode_with upper_digits bytes in
    let some = h.some in
    let few = h.few in
    let not_none : (length (encode_upper bytes) == 0) ≡ false = ne_eqb _ 0 (λ e. omega (arith, len, e, some)) in
    let not_long : nat_lt 256 (length (encode_upper bytes)) ≡ false = grind (arith, nat_tests) in
    rw (not_none, not_long, decode_of-encode_upper bytes h.are_bytes) refl

byte_at-fits : (i x : ℕ) → byte_at i x < 256
byte_at-fits zero x = omega arith
byte_at-fits (suc i) x = omega arith

bytes-low : (i n x : ℕ) → IsBytes (bytes_low_first i n x)
bytes-low i zero x k = omega arith
bytes-low i (suc n) x zero = byte_at-fits i x
bytes-low i (suc n) x (suc k) = bytes-low (suc i) n x k

operand-data : (w : Width) (x : ℕ) → IsData (little_bytes (size_of w) x)
operand-data w x = record { some = some w; few = few w; are_bytes = bytes-low 0 (size_of w) x }
  where
    some : (w : Width) → 1 ≤ length (little_bytes (size_of w) x)
    some widths.Four = omega arith
    some widths.Eight = omega arith
    some widths.Sixteen = omega arith

    few : (w : Width) → length (little_bytes (size_of w) x) ≤ 128
    few widths.Four = omega arith
    few widths.Eight = omega arith
    few widths.Sixteen = omega arith

operand-reads : (w : Width) (x : ℕ) → IsOperand w x → spelled.operand (operand_word w x) ≡ Some (w, x)
operand-reads w x h = rw (bytes-read (little_bytes (size_of w) x) (operand-data w x)) (by w h)
  where
    by : (w : Width) → IsOperand w x → operand_of (little_bytes (size_of w) x) ≡ Some (w, x)
    by widths.Four h = ap (λ (n : ℕ). Some (widths.Four, n)) (little_number-reads_back 4 x [] h)
    by widths.Eight h = ap (λ (n : ℕ). Some (widths.Eight, n)) (little_number-reads_back 8 x [] h)
    by widths.Sixteen h = ap (λ (n : ℕ). Some (widths.Sixteen, n)) (little_number-reads_back 16 x [] h)

-- numbers are read back from their digits
pub record Digits : Type 0 where
  pub decimal : (most n : ℕ) → n ≤ most → n < 2 ^ 64 → numeral 10 most (decimal n) ≡ Some n
  pub hexadecimal : (most n : ℕ) → n ≤ most → n < 2 ^ 64 → numeral 16 most (hexadecimal n) ≡ Some n

op-reads : Digits → (op : Op) → IsInRange op → op_spelled (op_words op) ≡ Some op
op-reads digits (ops.Read a dw f l) h =
    rw (
      digits.hexadecimal 18446744073709551615 a (omega (arith, h.0)) (omega (arith, h.0)),
      digits.decimal 65535 dw (omega (arith, h.1)) (omega (arith, h.1)),
      digits.hexadecimal 15 f h.2.0 (omega (arith, h.2.0)),
      digits.hexadecimal 15 l h.2.1 (omega (arith, h.2.1)),
    ) refl
op-reads digits (ops.Write a f l bytes) h =
    rw (
      digits.hexadecimal 18446744073709551615 a (omega (arith, h.0)) (omega (arith, h.0)),
      digits.hexadecimal 15 f h.1.0 (omega (arith, h.1.0)),
      digits.hexadecimal 15 l h.1.1 (omega (arith, h.1.1)),
      bytes-read bytes.items h.2,
    ) refl
op-reads digits (ops.FetchAdd a w x) h = rw (digits.hexadecimal 18446744073709551615 a (omega (arith, h.0)) (omega (arith, h.0)), operand-reads w x h.1) refl
op-reads digits (ops.Swap a w x) h = rw (digits.hexadecimal 18446744073709551615 a (omega (arith, h.0)) (omega (arith, h.0)), operand-reads w x h.1) refl
op-reads digits (ops.Cas a w x y) h =
    let same : (size_of w == size_of w) ≡ true = eq-eqb (size_of w) (size_of w) refl in
    rw (digits.hexadecimal 18446744073709551615 a (omega (arith, h.0)) (omega (arith, h.0)), operand-reads w x h.1, operand-reads w y h.2, same) refl

pub op-spelled : Digits → (op : Op) → IsInRange op → IsSpelledOp op
op-spelled digits op h = (op_words op, op-reads digits op h)
