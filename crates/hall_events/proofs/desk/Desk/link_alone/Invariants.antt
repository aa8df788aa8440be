use Rattle.std.proofs.Common.{[]}
use Rattle.hall_laws.specs.Rule.{after_silent}
use Rattle.hall_laws.specs.Standing.{token_of}
use Rattle.hall_events.specs.Works.{link_event}
use Rattle.hall_events.proofs.desk.Desk.link_alone.Given as goal

abbrev pub ghosts-event : goal.ghosts-event
ghosts-event a = let told = a.told.now in record { token = after_silent (link_event told.0 told.1) told.2.now [] (token_of a.self.now.place.now.me.0) }
