use Rattle.fabric_steps.proofs.laws.new_parts_make_a_new_fabric.Goals as goal
use Rattle.fabric_steps.proofs.Routed.{new_whole, new_routed}

pub returns : goal.returns
returns c = record { whole = new_whole; routed = new_routed }
