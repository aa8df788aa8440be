use Rattle.std.proofs.Common.{ap, length, length-append, arith}
use Rattle.operation_text.specs.Texts.{hexadecimal}
use Rattle.operation_text.proofs.DigitLemmas.{hexadecimal-short}
use Rattle.operation_text.proofs.writing.write_hexadecimal.Goals as goal

pub returns-clause-len : goal.returns-clause-len
returns-clause-len c =
    let n = c.args.number in
    let whole = ap length c.put_hexadecimal.ensures in
    omega (arith, whole, length-append c.args.out.now.bytes (hexadecimal n), hexadecimal-short n c.ranges.number.fits)
