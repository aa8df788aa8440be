use Rattle.std.proofs.Common.{[], ◌∷◌}
use Rattle.fabric_steps.specs.declared.event.EventOf.TheVariants.{Submit}
use Rattle.fabric_steps.specs.declared.event.SeenOf.TheVariants.{Submitted}
use Rattle.hall_laws.specs.Standing.{token_of}
use Rattle.hall_laws.specs.Rule.{after_event, history_in}
use Rattle.hall_events.specs.Desks.{entry}
use Rattle.hall_events.proofs.desk.Desk.submit.Given as goal

abbrev pub ghosts-event : goal.ghosts-event
ghosts-event a = let told = a.told.now in
    record { token = after_event (Submit told.1 told.2.now) (Submitted told.0) (history_in told.3.now.value) (entry told.4.now ∷ (entry told.3.now ∷ [])) (token_of a.self.now.place.now.me.0) }
