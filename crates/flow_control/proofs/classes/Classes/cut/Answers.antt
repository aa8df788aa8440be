use Rattle.std.proofs.Common.{arith}
use Rattle.flow_control.proofs.Merged.{cut_further, cut_at_end}
use Rattle.flow_control.proofs.classes.Classes.cut.Goals as goal

pub returns-in_default : goal.returns-in_default
returns-in_default c all s =
    cut_at_end c.loop-before._before c.args.place all c.loop-before.cut c.oldest.result c.args.self.now (omega arith) s (c.loop-before.invariant all s) c.oldest.ensures.first c.in_default.is

pub loop-before-preserved : goal.loop-before-preserved
loop-before-preserved c all s =
    cut_further c.loop-before._before all c.loop-before.cut c.past-cut.result c.oldest.result c.in-Some.class c.args.self.now s (c.loop-before.invariant all s) c.oldest.ensures.first c.in-Some.is c.past-cut.ensures
