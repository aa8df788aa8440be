use Rattle.hall_laws.specs.Rule.{dropped_seen, history_in}
use Rattle.hall_laws.proofs.laws.put_back_seen.Given as goal

abbrev pub ghosts-release : goal.ghosts-release
ghosts-release a = record { after = dropped_seen (history_in a.value) a.place.now.me.0 }
