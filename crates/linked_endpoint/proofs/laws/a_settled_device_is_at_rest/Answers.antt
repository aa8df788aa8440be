use Rattle.linked_endpoint.proofs.Turns.{settled_rests, settled_enters, settling_turns}
use Rattle.linked_endpoint.proofs.laws.a_settled_device_is_at_rest.Goals as goal

pub returns-clause-acts : goal.returns-clause-acts
returns-clause-acts c = settled_rests

pub returns-clause-enters : goal.returns-clause-enters
returns-clause-enters c = settled_enters

pub returns-clause-turns : goal.returns-clause-turns
returns-clause-turns c = settling_turns
