use Rattle.flow_control.proofs.Within.{new_within}
use Rattle.flow_control.proofs.gate.CreditGate.new.Goals as goal

pub invariant_of-result : goal.invariant_of-result
invariant_of-result c = rw (c.new.ensures, c.new-2.ensures, c.new-3.ensures) (new_within c.args.credits)
