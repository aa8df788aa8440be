use Rattle.std.proofs.Common.{ap, length, length-append, arith}
use Rattle.std.specs.Fmt.{decimal}
use Rattle.operation_text.proofs.DigitLemmas.{decimal-short}
use Rattle.operation_text.proofs.writing.write_decimal.Goals as goal

pub returns-else-number-lt10-clause-len : goal.returns-else-number-lt10-clause-len
returns-else-number-lt10-clause-len c =
    let n = c.args.number in
    let whole = ap length c.put_decimal.ensures in
    omega (arith, whole, length-append c.args.out.now.bytes (decimal n), decimal-short n c.ranges.number.fits)
