use Rattle.std.proofs.Common.{◌≡◌}
use Rattle.workers.specs.Jobs.{port_jobs}
use Rattle.workers.proofs.shares.all_jobs.Given as goal

abbrev pub invariant-loop-i : goal.invariant-loop-i
invariant-loop-i l = l.jobs.items ≡ port_jobs l.i
