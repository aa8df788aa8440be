use Rattle.hall_laws.proofs.Truths.{ruled}
use Rattle.hall_laws.proofs.laws.the_rule_line_by_line.Goals as goal

pub returns : goal.returns
returns c = ruled
