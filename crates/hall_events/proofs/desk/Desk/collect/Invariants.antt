use Rattle.std.proofs.Common.{[], ◌∷◌}
use Rattle.fabric_steps.specs.declared.event.EventOf.TheVariants.{Collect}
use Rattle.fabric_steps.specs.declared.event.SeenOf.TheVariants.{Collected}
use Rattle.hall_laws.specs.Standing.{token_of}
use Rattle.hall_laws.specs.Rule.{after_event, history_in}
use Rattle.hall_events.specs.Desks.{entry}
use Rattle.hall_events.proofs.desk.Desk.collect.Given as goal

abbrev pub ghosts-event : goal.ghosts-event
ghosts-event a = let told = a.told.now in
    record { token = after_event (Collect told.0) (Collected told.1.now) (history_in told.2.now.value) (entry told.3.now ∷ (entry told.2.now ∷ [])) (token_of a.self.now.place.now.me.0) }
