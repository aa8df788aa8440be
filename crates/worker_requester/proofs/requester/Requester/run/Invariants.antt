use Rattle.std.proofs.Common.{◌-◌}
use Rattle.worker_requester.specs.Following.{Follows, IsSame}
use Rattle.worker_requester.proofs.requester.Requester.run.Given as goal

abbrev pub invariant-loop-backoff : goal.invariant-loop-backoff
invariant-loop-backoff g l = Follows l.at × IsSame l.fn.self l.at

abbrev pub decreases-loop-backoff : goal.decreases-loop-backoff
decreases-loop-backoff g l = l.turns.limit - l.turns.done
