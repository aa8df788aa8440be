use Rattle.std.proofs.Common.{arith}
use Rattle.operation_text.proofs.OnePassLemmas.{next-digit, none-more, grows, grows-below, product-fits, digit-fits}
use Rattle.operation_text.proofs.digits.first_digits.Goals as goal

pub overflow_mul-number : goal.overflow_mul-number
overflow_mul-number c =
    let before = c.loop-count.invariant in
    omega (arith, product-fits c.args.radix c.loop-count.number c.loop-count.count c.requires.high before.few before.below)

pub overflow_add-number : goal.overflow_add-number
overflow_add-number c =
    let before = c.loop-count.invariant in
    omega (arith, digit-fits c.args.radix c.loop-count.number c.digit_of-digit.result c.loop-count.count c.requires.high c.if-digit-radix.false before.few before.below)

pub loop-count-preserved : goal.loop-count-preserved
loop-count-preserved c =
    let line = c.args.line.now in
    let at = c.loop-count.count in
    let n = c.loop-count.number in
    let v = c.digit_of-digit.result in
    let small = c.if-digit-radix.false in
    let is = c.digit_of-digit.ensures (omega (arith, small, c.requires.high)) in
    let before = c.loop-count.invariant in
    let inside = c.few-most.ensures in
    record {
      value = λ most le. next-digit c.args.radix most n v at line (omega (arith, c.loop-count-test.true, inside.line)) is
          (before.value most (omega (arith, le, grows c.args.radix n v c.requires.low))) small le;
      digits = none-more line at v before.digits is (omega (arith, small, c.requires.high));
      fits = omega (arith, c.loop-count-test.true, inside.line);
      few = omega (arith, c.loop-count-test.true, inside.few);
      below = grows-below c.args.radix n v at c.requires.high small before.below;
    }
