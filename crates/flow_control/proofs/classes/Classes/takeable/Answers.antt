use Rattle.std.proofs.Common.{◌∙◌}
use Rattle.std.specs.Prelude.{map}
use Rattle.flow_control.specs.Arrivals.{item_of}
use Rattle.flow_control.specs.Queue.{is_takeable}
use Rattle.flow_control.proofs.Walks.{is_some_if}
use Rattle.flow_control.proofs.classes.Classes.takeable.Goals as goal

pub returns : goal.returns
returns c all s = c.is_some.ensures ∙ is_some_if _ c.peek.result (is_takeable (map item_of all) c.args.place) (c.peek.ensures all s)
