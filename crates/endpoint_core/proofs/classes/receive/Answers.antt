use Rattle.std.proofs.Common.{refl, arith, ◌≤◌, length}
use Rattle.endpoint_core.proofs.classes.receive.Goals as goal
use Rattle.endpoint_core.proofs.Whole.{in_range}

pub returns : goal.returns
returns c =
    let few : length c.args.bytes.now ≤ 148 = omega (arith, c.if-bytes-gt-LONGEST.false) in
    let some : 12 ≤ length c.args.bytes.now = omega (arith, c.if-bytes-lt12.false) in
    record { becomes = rw (in_range c.args.bytes.now few some, c.of_plain.ensures, c.is_poisoned-poisoned.ensures, c.plain.ensures) refl }
