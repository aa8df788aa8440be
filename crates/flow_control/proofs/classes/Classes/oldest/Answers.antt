use Rattle.flow_control.proofs.Merged.{oldest_is}
use Rattle.flow_control.proofs.classes.Classes.oldest.Goals as goal

pub returns-clause-first : goal.returns-clause-first
returns-clause-first c before rest s k =
    rw (c.oldest_of.ensures, c.number_at-posted.ensures, c.number_at-non_posted.ensures, c.number_at-completion.ensures) (oldest_is before rest c.args.self.now c.args.cut s k)
