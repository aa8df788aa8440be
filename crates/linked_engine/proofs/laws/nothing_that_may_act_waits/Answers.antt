use Rattle.linked_engine.proofs.laws.nothing_that_may_act_waits.Goals as goal

pub returns-clause-acts : goal.returns-clause-acts
returns-clause-acts c = λ u. c.a_settled_device_is_at_rest.ensures.acts u.linked

pub returns-clause-enters : goal.returns-clause-enters
returns-clause-enters c = λ u. c.a_settled_device_is_at_rest.ensures.enters u.linked
