use Rattle.std.proofs.Common.{sym, subst}
use Rattle.search_others.specs.declared.junk.Junk.{Junk}
use Rattle.search_others.specs.Nothing.{IsNothing}
use Rattle.search_others.proofs.junk.is_nothing.Goals as goal

pub returns-in-Standing : goal.returns-in-Standing
returns-in-Standing c = λ so. subst (λ (k : Junk). IsNothing c.args.log.now c.args.bytes.now k c.args.word c.args.b) (sym c.in-Standing.is) (c.overlooks.ensures so)

pub returns-in-LeftBy : goal.returns-in-LeftBy
returns-in-LeftBy c = λ so. subst (λ (k : Junk). IsNothing c.args.log.now c.args.bytes.now k c.args.word c.args.b) (sym c.in-LeftBy.is) (c.leaves_junk_at.ensures so)
