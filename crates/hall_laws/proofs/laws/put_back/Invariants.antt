use Rattle.hall_laws.specs.Rule.{dropped_first}
use Rattle.hall_laws.proofs.laws.put_back.Given as goal

abbrev pub ghosts-release : goal.ghosts-release
ghosts-release a = record { after = dropped_first a.place.now.me.0 }
