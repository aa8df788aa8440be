use Rattle.flow_control.proofs.Taken.{none_at, lent_at}
use Rattle.flow_control.proofs.classes.Classes.at.Goals as goal

pub returns-in_default : goal.returns-in_default
returns-in_default c all s =
    (none_at all c.args.place c.args.self.now c.cut-cut.result c.oldest.result s (c.cut-cut.ensures all s) c.oldest.ensures.first c.in_default.is).0

pub returns : goal.returns
returns c all s =
    lent_at all c.args.place c.args.self.now c.cut-cut.result c.oldest.result c.in-Some.class c.get.result s (c.cut-cut.ensures all s) c.oldest.ensures.first c.in-Some.is
    (rw (← c.of.ensures, ← c.count.ensures) c.get.ensures.item)
