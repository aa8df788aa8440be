use Rattle.std.proofs.Common.{◌∙◌}
use Rattle.flow_control.proofs.Walks.{read_before}
use Rattle.flow_control.proofs.numbers.passes_before.Goals as goal

pub returns-in-Some : goal.returns-in-Some
returns-in-Some c = c.passes_first.ensures ∙ read_before c.args.place c.args.queue.now.items c.in-Some.arrived.now c.in-Some.ensures.item.3.0 c.in-Some.ensures.item.1
