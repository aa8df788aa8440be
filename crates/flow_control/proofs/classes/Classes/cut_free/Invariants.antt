use Rattle.std.proofs.Common.{◌≡◌, List, take}
use Rattle.flow_control.specs.declared.classes.Arrived.{Arrived}
use Rattle.flow_control.specs.Arrivals.{IsSplit, IsCut}
use Rattle.flow_control.proofs.classes.Classes.cut_free.Given as goal

abbrev pub invariant-loop-before : goal.invariant-loop-before
invariant-loop-before l = (all : List Arrived) → IsSplit all l.self → IsCut (take l._before all) l.cut × (l.cut.posted ≡ 0)
