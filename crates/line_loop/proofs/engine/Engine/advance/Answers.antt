use Rattle.std.proofs.Common.{◌++◌}
use Rattle.line_loop.specs.Engine.{Begins}
use Rattle.line_loop.proofs.LineLemmas.{on_err, either, stands-begins, begins-part}
use Rattle.line_loop.proofs.engine.Engine.advance.Goals as goal

pub returns-in_err-flush-clause-err : goal.returns-in_err-flush-clause-err
returns-in_err-flush-clause-err g c = on_err c.from_residual.result (
  c.in_err-flush.ensures.part.0,
  c.in_err-flush.ensures.part.2,
  λ start written read s.
      let r = g.P.Responder.responses in
      let new = c.feed-fed.new.self in
      let b : Begins r start new.pending.items written (read ++ c.args.bytes.now) = either c.feed-fed.result c.feed-fed.ensures.ok c.feed-fed.ensures.err
      (λ ok. stands-begins r start new.responder new.line.items new.pending.items new.status written (read ++ c.args.bytes.now) (ok start written read s))
      (λ err. err start written read s) in
      λ more. begins-part written c.in_err-flush.ensures.part.0 new.pending.items _ c.in_err-flush.ensures.part.1 (b more),
)
