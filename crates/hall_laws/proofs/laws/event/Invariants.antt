use Rattle.std.proofs.Common.{◌∷◌}
use Rattle.hall_laws.specs.Standing.{others_of}
use Rattle.hall_laws.proofs.laws.event.Given as goal

abbrev pub ghosts-release : goal.ghosts-release
ghosts-release g a = record { after = g.C.AfterEvent.token ∷ others_of a.place.now.me.0 }
