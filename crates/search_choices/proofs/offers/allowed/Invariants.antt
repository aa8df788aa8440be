use Rattle.std.proofs.Common.{take}
use Rattle.search_choices.specs.Offered.{Offers}
use Rattle.search_choices.proofs.offers.allowed.Given as goal

abbrev pub invariant-loop-b : goal.invariant-loop-b
invariant-loop-b l = Offers l.scene.log.now l.scene.place.now.state l.scene.others.now.due l.steps.items (take l.b-index l.scene.place.now.pending)
