use Rattle.std.proofs.Common.{◌≡◌, vec_len}
use Rattle.sweep_engine.proofs.judging.places.Given as goal

abbrev pub invariant-loop-place : goal.invariant-loop-place
invariant-loop-place l = vec_len l.found ≡ l._place
