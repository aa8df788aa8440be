use Rattle.std.proofs.Common.{take}
use Rattle.search_choices.proofs.Covering.{OnlySo}
use Rattle.search_choices.proofs.offers.only_act.Given as goal

abbrev pub invariant-loop-b : goal.invariant-loop-b
invariant-loop-b l = OnlySo l.scene.log.now l.scene.place.now.state l.scene.others.now.due l.only (take l.b-index l.scene.place.now.pending)
