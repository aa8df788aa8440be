use Rattle.std.proofs.Common.{sym}
use Rattle.search_effects.proofs.ranges.are_apart.Goals as goal

pub returns : goal.returns
returns c = λ yes.
    c.lie_apart.ensures yes c.args.one.now c.args.other.now (sym c.address.ensures) (sym c.size.ensures.value) (sym c.address-2.ensures) (sym c.size-2.ensures.value)
