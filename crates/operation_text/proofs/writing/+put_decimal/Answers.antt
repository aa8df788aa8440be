use Rattle.std.proofs.Common.{◌≤◌, ◌<◌, ◌^◌, ◌≡◌, ◌+◌, ◌++◌, ◌%◌, ◌/◌, ◌∙◌, List, ℕ, length, ap, sym, append_assoc, length-append, arith}
use Rattle.std.specs.Fmt.{decimal}
use Rattle.arrayvec.specs.declared.array_string.ArrayString.{ArrayString}
use Rattle.operation_text.proofs.DigitLemmas.{decimal_twos, two_digits}
use Rattle.operation_text.proofs.writing.+put_decimal.Goals.{then-front-lt100, else-front-lt100}
use Rattle.operation_text.proofs.writing.+put_decimal.Goals as goal

-- the digits but the last two, and the last two
front : (n : ℕ) → 100 ≤ n → n < 2 ^ 64 → length (decimal n) ≡ length (decimal (n / 100)) + 2
front n more fits = ap length (decimal_twos n more fits) ∙ length-append (decimal (n / 100)) (two_digits (n % 100))

pub put_small-requires-then-front-lt100-clause-room : goal.put_small-requires-then-front-lt100-clause-room
put_small-requires-then-front-lt100-clause-room t c =
    let e = front c.args.number c.if-number-lt100.false c.ranges.number.fits in
    omega (arith, e, c.requires)

pub put_decimal-requires : goal.put_decimal-requires
put_decimal-requires t c =
    let e = front c.args.number c.if-number-lt100.false c.ranges.number.fits in
    (omega arith, omega (arith, e, c.requires))

pub put_two-requires-clause-room : goal.put_two-requires-clause-room
put_two-requires-clause-room t c =
    let n = c.args.number in
    let e = front n c.if-number-lt100.false c.ranges.number.fits in
    let written : c.if-front-lt100.out.bytes ≡ c.args.out.now.bytes ++ decimal (n / 100) = elim c.if-front-lt100.branch [
      | then-front-lt100 w ↦ ap (λ (o : ArrayString 512). o.bytes) w.out-is ∙ w.put_small-then-front-lt100.ensures
      | else-front-lt100 w ↦ ap (λ (o : ArrayString 512). o.bytes) w.out-is ∙ w.put_decimal.ensures
    ] in
    omega (arith, e, ap length written ∙ length-append c.args.out.now.bytes (decimal (n / 100)), c.requires)

pub returns : goal.returns
returns t c =
    let n = c.args.number in
    let written : c.if-front-lt100.out.bytes ≡ c.args.out.now.bytes ++ decimal (n / 100) = elim c.if-front-lt100.branch [
      | then-front-lt100 w ↦ ap (λ (o : ArrayString 512). o.bytes) w.out-is ∙ w.put_small-then-front-lt100.ensures
      | else-front-lt100 w ↦ ap (λ (o : ArrayString 512). o.bytes) w.out-is ∙ w.put_decimal.ensures
    ] in
    c.put_two.ensures.text ∙ ap (λ (b : List ℕ). b ++ two_digits (n % 100)) written
    ∙ append_assoc c.args.out.now.bytes (decimal (n / 100)) (two_digits (n % 100))
    ∙ ap (λ (b : List ℕ). c.args.out.now.bytes ++ b) (sym (decimal_twos n c.if-number-lt100.false c.ranges.number.fits))
