use Rattle.std.proofs.Common.{◌≡◌}
use Rattle.run_engine.specs.Counting.{script_of}
use Rattle.run_engine.proofs.plan.script_of.Given as goal

abbrev pub invariant-loop-place : goal.invariant-loop-place
invariant-loop-place l = l.script.items ≡ script_of l._place
