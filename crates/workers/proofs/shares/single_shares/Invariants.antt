use Rattle.std.proofs.Common.{◌≡◌, map, take, ◌∷◌, []}
use Rattle.workers.proofs.shares.single_shares.Given as goal

abbrev pub invariant-loop-job : goal.invariant-loop-job
invariant-loop-job l = map (λ s. s.items) l.shares.items ≡ map (λ j. j ∷ []) (take l.job-index l.jobs)
