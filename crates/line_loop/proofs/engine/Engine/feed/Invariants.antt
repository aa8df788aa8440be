use Rattle.std.proofs.Common.{◌≡◌, List, ℕ, ◌++◌, length}
use Rattle.line_loop.specs.Engine.{Stands}
use Rattle.line_loop.proofs.engine.Engine.feed.Given as goal

abbrev pub invariant-loop-end : goal.invariant-loop-end
invariant-loop-end g l = (done : List ℕ) × (l.bytes ≡ done ++ l.rest)
    × ((start : g.row.P.Denot) (written read : List ℕ)
    → Stands g.P.Responder.responses start l.fn.self.responder l.fn.self.line.items l.fn.self.pending.items l.fn.self.status written read
    → Stands g.P.Responder.responses start l.self.responder l.self.line.items l.self.pending.items l.self.status written (read ++ done))

abbrev pub decreases-loop-end : goal.decreases-loop-end
decreases-loop-end g l = length l.rest
