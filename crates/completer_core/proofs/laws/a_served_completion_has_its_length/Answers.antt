use Rattle.completer_core.proofs.Shapes.{served_completion}
use Rattle.completer_core.proofs.laws.a_served_completion_has_its_length.Goals as goal

pub returns : goal.returns
returns c = served_completion
