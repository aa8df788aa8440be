use Rattle.fabric_steps.specs.Fabric.{whole_of}
use Rattle.hall_core.proofs.Counted.{by_counts}
use Rattle.hall_core.proofs.laws.counts_order_requests.Goals as goal

pub returns : goal.returns
returns c = λ f rs s b. by_counts (record { memory = f.memory; records = rs }) (c.the_trace_belongs.ensures.explained (whole_of f) rs s.sound b) (c.the_trace_belongs.ensures.clocked (whole_of f) rs b)
