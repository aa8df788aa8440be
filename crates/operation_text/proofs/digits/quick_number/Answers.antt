use Rattle.std.proofs.Common.{arith}
use Rattle.operation_text.proofs.digits.quick_number.Goals as goal

pub returns-clause-field : goal.returns-clause-field
returns-clause-field c =
    let h = c.in_ok-number.ensures c.args.most (omega (arith, c.if-number-most.false)) in
    rw c.in_ok-rest.was (rw c.from.ensures at h)
