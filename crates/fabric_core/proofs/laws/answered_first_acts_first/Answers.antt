use Rattle.fabric_core.proofs.laws.answered_first_acts_first.Goals as goal
use Rattle.fabric_steps.specs.Fabric.{whole_of}

pub returns : goal.returns
returns c = λ f rs s b. c.answered_first_acts_first.ensures (record { memory = f.memory; records = rs }) (c.the_trace_belongs.ensures.explained (whole_of f) rs s.sound b) (c.the_trace_belongs.ensures.clocked (whole_of f) rs b)
