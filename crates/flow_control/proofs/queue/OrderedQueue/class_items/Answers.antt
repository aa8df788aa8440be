use Rattle.flow_control.specs.Arrivals.{in_order}
use Rattle.flow_control.proofs.Walks.{are_items}
use Rattle.flow_control.proofs.queue.OrderedQueue.class_items.Goals as goal

pub returns : goal.returns
returns c = rw (c.of.ensures, ← c.self.view_is) (are_items c.args.class (in_order c.self.inside.classes) c.self.inside.classes c.self.invariant)
