use Rattle.std.proofs.Common.{◌≡◌, List, ℕ, [], length}
use Rattle.std.specs.Io.KnownBytes.{Appends, Consumes}
use Rattle.line_loop.specs.Engine.{Stands}
use Rattle.line_loop.proofs.engine.run.Given as goal

abbrev pub invariant-loop : goal.invariant-loop
invariant-loop g l = (read : List ℕ) × (written : List ℕ)
    × Consumes (g.R.Read.remaining l.fn.reader) (g.R.Read.remaining l.reader) read
    × Appends (g.W.Write.contents l.fn.writer) (g.W.Write.contents l.writer) written
    × (l.engine.pending.items ≡ [])
    × Stands g.P.Responder.responses l.fn.responder l.engine.responder l.engine.line.items l.engine.pending.items l.engine.status written read
    × (length l.buffer ≡ 8192)
