use Rattle.fabric_steps.proofs.laws.each_link_call_is_a_step.Goals as goal
use Rattle.fabric_steps.proofs.Events.{link_up, link_down, link_in, link_out}

pub returns : goal.returns
returns c = record { up = link_up; down = link_down; inward = link_in; outward = link_out }
