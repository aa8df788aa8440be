use Rattle.flow_control.specs.Arrivals.{IsAnew, items_of}
use Rattle.flow_control.proofs.classes.Classes.number_anew.Given as goal

abbrev pub invariant-loop-place : goal.invariant-loop-place
invariant-loop-place l = IsAnew (items_of l.fn.self) l.place l.cut l.self
