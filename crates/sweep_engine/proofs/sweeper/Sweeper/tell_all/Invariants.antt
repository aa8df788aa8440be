use Rattle.std.proofs.Common.{◌≡◌, ℕ, List, fold, length}
use Rattle.sweep_engine.specs.declared.piping.Said.{Said}
use Rattle.sweep_engine.specs.Pipe.{AreFound, AreSaid}
use Rattle.sweep_engine.specs.Sweep.{after_said}
use Rattle.sweep_engine.proofs.sweeper.Sweeper.tell_all.Given as goal

abbrev pub invariant-loop-one : goal.invariant-loop-one
invariant-loop-one l = (saids : List Said) × (length saids ≡ l.one-index) × (l.self ≡ fold (after_said l.sweep) l.fn.self saids) × ((first : ℕ) → AreFound l.sweep first l.found → AreSaid l.sweep first saids)
