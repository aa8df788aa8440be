use Rattle.search_forced.specs.Groups.{IsGroup}
use Rattle.search_forced.proofs.groups.gather.Given as goal

abbrev pub invariant-loop-turn : goal.invariant-loop-turn
invariant-loop-turn l = IsGroup l.known.log.now l.fn.place.state l.request l.group l.place
