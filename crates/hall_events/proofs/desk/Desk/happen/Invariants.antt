use Rattle.std.proofs.Common.{[], ◌∷◌}
use Rattle.hall_events.specs.Desks.{entry}
use Rattle.hall_events.proofs.desk.Desk.happen.Given as goal

abbrev pub ghosts-event : goal.ghosts-event
ghosts-event g a = record { token = record { knows = g.C.Learns.knows; held = entry a.told.now ∷ [] } }
