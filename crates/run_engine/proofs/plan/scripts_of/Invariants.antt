use Rattle.std.proofs.Common.{◌≡◌, map}
use Rattle.run_engine.specs.Counting.{scripts_of}
use Rattle.run_engine.proofs.plan.scripts_of.Given as goal

abbrev pub invariant-loop-place : goal.invariant-loop-place
invariant-loop-place l = map (λ s. s.items) l.scripts.items ≡ scripts_of l._place l.each
