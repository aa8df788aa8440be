use Rattle.flow_control.proofs.Merged.{first_oldest}
use Rattle.flow_control.proofs.classes.Classes.first.Goals as goal

pub returns : goal.returns
returns c all s = rw (c.oldest_of.ensures, c.number_at.ensures, c.number_at-2.ensures, c.number_at-3.ensures) (first_oldest all c.args.self.now s)
