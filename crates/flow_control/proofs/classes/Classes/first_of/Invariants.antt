use Rattle.std.proofs.Common.{◌≡◌, take}
use Rattle.flow_control.specs.Arrivals.{IsCut, in_order, count_in}
use Rattle.flow_control.proofs.classes.Classes.first_of.Given as goal

abbrev pub invariant-loop-place : goal.invariant-loop-place
invariant-loop-place l = IsCut (take l.place (in_order l.self)) l.cut × (count_in l.class l.cut ≡ 0)
