use Rattle.std.proofs.Common.{inr}
use Rattle.search_forced.proofs.scene.Scene.leaves_nothing.Goals as goal

pub returns : goal.returns
returns c = λ so. inr (c.is_within.ensures c.if-not-is_within.false, c.all_ignore.ensures so)
