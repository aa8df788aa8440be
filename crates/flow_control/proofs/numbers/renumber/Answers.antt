use Rattle.flow_control.proofs.Anew.{renumbered_at}
use Rattle.flow_control.proofs.numbers.renumber.Goals as goal

pub returns-in-Some : goal.returns-in-Some
returns-in-Some c = renumbered_at c.args.queue.now.items c.args.place c.args.arrival c.in-Some.arrived.now c.in-Some.ensures.item.3.0 c.in-Some.ensures.item.1
