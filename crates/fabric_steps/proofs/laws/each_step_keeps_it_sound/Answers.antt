use Rattle.fabric_steps.proofs.laws.each_step_keeps_it_sound.Goals as goal
use Rattle.fabric_steps.proofs.New.{new_sound}
use Rattle.fabric_steps.proofs.Keeps.{keeps}

pub returns : goal.returns
returns c = record { new = new_sound; step = keeps }
