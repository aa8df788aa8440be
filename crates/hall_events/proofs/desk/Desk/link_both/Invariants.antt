use Rattle.hall_laws.specs.Rule.{with_done}
use Rattle.hall_laws.specs.Standing.{token_of}
use Rattle.hall_events.specs.Works.{link_event}
use Rattle.hall_events.proofs.desk.Desk.link_both.Given as goal

abbrev pub ghosts-happen : goal.ghosts-happen
ghosts-happen a = let told = a.told.now in record { knows = with_done (link_event told.0 told.1) told.2.now (token_of a.self.now.place.now.me.0).knows }
