use Rattle.std.proofs.Common.{◌≡◌, ◌≤◌, ◌+◌, map}
use Rattle.std.specs.Prelude.{max}
use Rattle.workers.proofs.Dealing.{Dealt}
use Rattle.workers.proofs.shares.port_shares.Given as goal

abbrev pub invariant-loop-i : goal.invariant-loop-i
invariant-loop-i l =
    Dealt l.groups l.step l.i (map (λ s. s.items) l.shares.items) l.share.items l.filled × (l.groups ≡ l.requesters + 1) × (1 ≤ l.step) × (l.step ≤ l.groups) × (l.step ≤ max 1 l.threads)
