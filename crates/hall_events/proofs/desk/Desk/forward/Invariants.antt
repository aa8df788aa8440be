use Rattle.fabric_steps.specs.declared.event.EventOf.TheVariants.{Forward}
use Rattle.fabric_steps.specs.declared.event.SeenOf.TheVariants.{To}
use Rattle.hall_laws.specs.Rule.{with_done}
use Rattle.hall_laws.specs.Standing.{token_of}
use Rattle.hall_events.proofs.desk.Desk.forward.Given as goal

abbrev pub ghosts-happen : goal.ghosts-happen
ghosts-happen a = let told = a.told.now in record { knows = with_done (Forward told.0 told.1) (To told.2) (token_of a.self.now.place.now.me.0).knows }
