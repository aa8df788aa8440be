use Rattle.std.proofs.Common.{[], ◌∷◌}
use Rattle.fabric_steps.specs.declared.event.EventOf.TheVariants.{Serve}
use Rattle.fabric_steps.specs.declared.event.SeenOf.TheVariants.{At}
use Rattle.hall_laws.specs.Rule.{with_done}
use Rattle.hall_laws.specs.Standing.{token_of}
use Rattle.hall_laws.specs.Calls.{serving_also}
use Rattle.hall_events.specs.Desks.{entry}
use Rattle.hall_events.proofs.desk.Desk.serve.Given as goal

abbrev pub ghosts-event : goal.ghosts-event
ghosts-event a = let told = a.told.now in
    record { token = record { knows = with_done (Serve told.0) (At told.1) (serving_also told.1 (token_of a.self.now.place.now.me.0).knows); held = entry told.2.now ∷ (entry told.3.now ∷ []) } }
