use Rattle.std.proofs.Common.{◌≡◌}
use Rattle.log_runs.specs.Explainable.{prefix}
use Rattle.search_scene.proofs.known.first_of.Given as goal

abbrev pub invariant-loop-place : goal.invariant-loop-place
invariant-loop-place l = l.part ≡ prefix l.place l.seen
